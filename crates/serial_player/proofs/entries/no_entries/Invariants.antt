use Rattle.std.proofs.Common.{[]}
use Rattle.serial_player.specs.OutputEntries.{HaveEntries}
use Rattle.serial_player.proofs.entries.no_entries.Given as goal

abbrev pub invariant-loop : goal.invariant-loop
invariant-loop l = HaveEntries l.counter [] l.made.items
