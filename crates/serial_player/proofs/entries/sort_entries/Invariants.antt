use Rattle.serial_player.specs.OutputEntries.{HaveEntries}
use Rattle.serial_player.proofs.entries.sort_entries.Given as goal

abbrev pub invariant-loop-entry : goal.invariant-loop-entry
invariant-loop-entry l = HaveEntries l.outputs l.yielded l.made.items
