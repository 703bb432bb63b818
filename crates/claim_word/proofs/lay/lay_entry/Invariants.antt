use Rattle.std.proofs.Common.{◌≡◌, ◌+◌, length, drop}
use Rattle.claim_word.specs.Writings.{holding}
use Rattle.claim_word.proofs.Writing.{WroteSome}
use Rattle.claim_word.proofs.lay.lay_entry.Given as goal

abbrev pub invariant-loop-channel : goal.invariant-loop-channel
invariant-loop-channel l = record {
  long : length l.words ≡ length l.fn.words;
  wrote : WroteSome (holding (drop 1 l.fn.words)) (holding (drop 1 l.words)) l.fn.place l.fn.entry
      (2 + l.channel);
}
