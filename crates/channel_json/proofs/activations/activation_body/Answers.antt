use Rattle.channel_json.proofs.Floats.{whole_accepted}
use Rattle.channel_json.proofs.activations.activation_body.Goals as goal

pub append-requires : goal.append-requires
append-requires c =
    rw c.in_ok-value.ensures
    (whole_accepted c.args.device.now c.args.id c.args.when.now c.args.tick c.args.offset
    c.args.action.now)
