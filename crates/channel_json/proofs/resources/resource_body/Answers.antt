use Rattle.channel_json.proofs.Floats.{whole_resource}
use Rattle.channel_json.proofs.resources.resource_body.Goals as goal

pub append-requires : goal.append-requires
append-requires c = rw c.in_ok-value.ensures (whole_resource c.args.device.now c.args.resource)
