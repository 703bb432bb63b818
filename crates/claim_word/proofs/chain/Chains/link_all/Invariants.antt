use Rattle.std.proofs.Common.{ℕ, ◌-◌, length}
use Rattle.std.specs.Prelude.{vec_len}
use Rattle.claim_word.specs.Chains.{HavePassed, IsChained}
use Rattle.claim_word.proofs.chain.Chains.link_all.Given as goal

abbrev pub invariant-loop-self : goal.invariant-loop-self
invariant-loop-self l = record {
  chained : IsChained l.fn.heads (length l.fn.self.tracks.items) l.self;
  passed : (reached : ℕ) → HavePassed l.fn.heads reached l.fn.self.tracks.items
      → HavePassed l.fn.heads reached l.self.tracks.items;
}

abbrev pub decreases-loop-self : goal.decreases-loop-self
decreases-loop-self l = length l.fn.heads - vec_len l.self.next
