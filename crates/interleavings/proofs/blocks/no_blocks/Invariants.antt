use Rattle.std.proofs.Common.{◌≡◌, ℕ, length}
use Rattle.std.specs.Prelude.{None}
use Rattle.interleavings.specs.Core.{set_at}
use Rattle.interleavings.proofs.blocks.no_blocks.Given as goal

abbrev pub invariant-loop : goal.invariant-loop
invariant-loop l = record {
  long : length l.made.items ≡ l.counter;
  none : (input tick : ℕ) → set_at l.made.items input tick ≡ None;
}
