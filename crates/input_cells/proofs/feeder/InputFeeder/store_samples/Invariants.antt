use Rattle.std.specs.Prelude.{◌+◌, ◌*◌}
use Rattle.input_cells.specs.Feeding.{Spells}
use Rattle.input_cells.proofs.feeder.InputFeeder.store_samples.Given as goal

abbrev pub invariant-loop-frame : goal.invariant-loop-frame
invariant-loop-frame l = Spells l.fn.self l.self l.tick l.samples (l.frame * l.fn.table.shape.channels)

abbrev pub invariant-loop-channel : goal.invariant-loop-channel
invariant-loop-channel l = Spells l.fn.self l.self l.tick l.samples (l.frame * l.fn.table.shape.channels + l.channel)
