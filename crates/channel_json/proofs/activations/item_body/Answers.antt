use Rattle.channel_json.proofs.Floats.{whole_item}
use Rattle.channel_json.proofs.activations.item_body.Goals as goal

pub append-requires : goal.append-requires
append-requires c =
    rw c.in_ok-value.ensures
    (whole_item c.args.device.now c.args.item.now.when c.args.item.now.tick
    c.args.item.now.offset c.args.item.now.action)
