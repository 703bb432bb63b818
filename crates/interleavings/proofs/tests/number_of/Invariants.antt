use Rattle.std.proofs.Common.{◌≡◌}
use Rattle.interleavings.proofs.tests.number_of.Given as goal

abbrev pub invariant-loop : goal.invariant-loop
invariant-loop l = record {
  setup : l.core.setup ≡ l.setup;
  workers : l.core.workers ≡ 3;
}
