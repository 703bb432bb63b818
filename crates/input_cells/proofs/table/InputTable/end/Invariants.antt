use Rattle.std.specs.Vec.{vec_len}
use Rattle.input_cells.proofs.Ending.{AreConfirmed}
use Rattle.input_cells.proofs.table.InputTable.end.Given as goal

abbrev pub invariant-loop-reader : goal.invariant-loop-reader
invariant-loop-reader l = AreConfirmed l.fn.feeds l.feeds.items l.fn.readers l.readers.items

abbrev pub decreases-loop-reader : goal.decreases-loop-reader
decreases-loop-reader l = vec_len l.readers
