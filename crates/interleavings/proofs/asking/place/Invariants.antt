use Rattle.std.proofs.Common.{◌≡◌, ◌≤◌, length, true}
use Rattle.std.specs.Prelude.{IfSome, slice_get}
use Rattle.book_words.specs.History.{comes_before}
use Rattle.interleavings.proofs.asking.place.Given as goal

abbrev pub decreases-loop-at : goal.decreases-loop-at
decreases-loop-at l = l.at

abbrev pub invariant-loop-at : goal.invariant-loop-at
invariant-loop-at l = record {
  within : l.at ≤ length l.replies;
  before : IfSome (slice_get l.replies l.at) (λ y. comes_before l.item y ≡ true);
}
