use Rattle.std.proofs.Common.{take}
use Rattle.map_entry.specs.Entry.{IsFirstRuled}
use Rattle.map_entry.proofs.routing.first_ruled.Given as goal

abbrev pub invariant-loop-entry : goal.invariant-loop-entry
invariant-loop-entry l = IsFirstRuled (take l.entry-index l.later) l.output l.tick l.frame l.frames l.upto
