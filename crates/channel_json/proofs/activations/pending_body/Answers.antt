use Rattle.channel_json.proofs.Floats.{whole_pending}
use Rattle.channel_json.proofs.activations.pending_body.Goals as goal

pub append-requires : goal.append-requires
append-requires c = rw c.in_ok-value.ensures (whole_pending c.args.device.now c.as_slice.result.now)
