use Rattle.std.proofs.Common.{◌≡◌, false}
use Rattle.interleavings.specs.Core.{repeated}
use Rattle.interleavings.proofs.start.no_flags.Given as goal

abbrev pub invariant-loop : goal.invariant-loop
invariant-loop l = l.made ≡ repeated false l.counter
