use Rattle.std.proofs.Common.{drop}
use Rattle.map_entry.specs.Entry.{IsUnruled}
use Rattle.map_entry.specs.Tick.{frame_key}
use Rattle.map_entry.proofs.routing.select_piece.Given as goal

abbrev pub invariant-loop-at : goal.invariant-loop-at
invariant-loop-at l = IsUnruled (drop l.at l.entries) l.output (frame_key l.tick l.frame)
