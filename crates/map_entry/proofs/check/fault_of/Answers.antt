use Rattle.std.proofs.Common.{sym, ◌∙◌}
use Rattle.map_entry.proofs.Lowest.{all_there}
use Rattle.map_entry.proofs.check.fault_of.Goals as goal

pub bad_block-requires : goal.bad_block-requires
bad_block-requires c = all_there c.args.device.now.inputs c.args.row.now (sym c.bad_channel.ensures.value ∙ c.in_default-bad_channel.is)

pub bad_order-requires : goal.bad_order-requires
bad_order-requires c = all_there c.args.device.now.inputs c.args.row.now (sym c.bad_channel.ensures.value ∙ c.in_default-bad_channel.is)
