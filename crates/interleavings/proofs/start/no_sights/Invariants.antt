use Rattle.std.proofs.Common.{◌≡◌}
use Rattle.interleavings.specs.Core.{no_sight, repeated}
use Rattle.interleavings.proofs.start.no_sights.Given as goal

abbrev pub invariant-loop : goal.invariant-loop
invariant-loop l = l.made ≡ repeated (no_sight l.inputs) l.counter
