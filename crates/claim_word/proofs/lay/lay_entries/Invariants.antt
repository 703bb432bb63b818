use Rattle.std.proofs.Common.{◌≡◌, length, drop}
use Rattle.claim_word.specs.Writings.{holding}
use Rattle.claim_word.proofs.Writing.{WroteFirst}
use Rattle.claim_word.proofs.lay.lay_entries.Given as goal

abbrev pub invariant-loop-at : goal.invariant-loop-at
invariant-loop-at l = record {
  long : length l.words ≡ length l.fn.words;
  wrote : WroteFirst (holding (drop 1 l.fn.words)) (holding (drop 1 l.words)) l.fn.entries l.at;
}
