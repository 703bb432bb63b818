use Rattle.std.proofs.Common.{◌≡◌, take}
use Rattle.map_entry.specs.Entry.{selected}
use Rattle.map_entry.specs.Tick.{frame_key}
use Rattle.map_entry.proofs.routing.select_in.Given as goal

abbrev pub invariant-loop-at : goal.invariant-loop-at
invariant-loop-at l = selected l.entries l.output (frame_key l.tick l.frame) ≡ selected (take l.at l.entries) l.output (frame_key l.tick l.frame)
