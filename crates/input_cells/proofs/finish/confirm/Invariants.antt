use Rattle.std.specs.Vec.{vec_len}
use Rattle.input_cells.proofs.Ending.{IsConfirmed}
use Rattle.input_cells.proofs.finish.confirm.Given as goal

abbrev pub invariant-loop-seat : goal.invariant-loop-seat
invariant-loop-seat l = IsConfirmed l.fn.feeds.items l.feeds.items l.fn.reader l.seats.items

abbrev pub decreases-loop-seat : goal.decreases-loop-seat
decreases-loop-seat l = vec_len l.seats
