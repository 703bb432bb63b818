use Rattle.std.proofs.Common.{◌≡◌, length}
use Rattle.claim_word.proofs.Reading.{AreSame}
use Rattle.claim_word.proofs.shelf.fill.Given as goal

abbrev pub invariant-loop-at : goal.invariant-loop-at
invariant-loop-at l = record {
  long : length l.row ≡ length l.fn.model;
  same : AreSame l.row l.fn.model l.at;
}
