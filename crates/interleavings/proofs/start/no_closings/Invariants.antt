use Rattle.std.proofs.Common.{◌≡◌}
use Rattle.interleavings.specs.Core.{repeated}
use Rattle.interleavings.proofs.start.no_closings.Given as goal

abbrev pub invariant-loop : goal.invariant-loop
invariant-loop l = l.made ≡ repeated 0 l.counter
