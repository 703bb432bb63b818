use Rattle.channel_json.proofs.Floats.{whole_active}
use Rattle.channel_json.proofs.activations.active_body.Goals as goal

pub append-requires : goal.append-requires
append-requires c =
    rw c.in_ok-value.ensures (whole_active c.args.device.now c.args.active.now c.args.only)
