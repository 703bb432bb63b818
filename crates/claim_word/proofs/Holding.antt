-- Rows that a pass holds: what stays of them as entries come and rows are read.
use Rattle.std.proofs.Common.{◌≡◌, ℕ, List, length, sym, ap, ◌∙◌}
use Rattle.std.proofs.Common.{subst, arith}
use Rattle.std.specs.Prelude.{Option, None, IfSome, replicate}
use Rattle.std.proofs.lemmas.List.{length-replicate}
use Rattle.map_entry.specs.declared.cell.Cell.{Cell}
use Rattle.map_entry.specs.declared.entry.Entry.{Entry}
use Rattle.claim_rule.specs.Views.{Begins}
use Rattle.claim_rule.proofs.Lists.{begins_at, begins_length}
use Rattle.claim_word.specs.Holding.{held_at, row_at, IsHeld, IsRowAt}
use Rattle.claim_word.proofs.Chaining.{if_some, none_there}

-- they stay as more entries are known
pub held_more : (es more : List Entry) (outputs : ℕ) (held : List (Option ℕ))
    (rows : List (List Cell)) → Begins es more → IsHeld es outputs held rows
    → IsHeld more outputs held rows
held_more es more outputs held rows b it = record {
  count = it.count;
  are = λ o. if_some (IsRowAt es (row_at rows o)) (IsRowAt more (row_at rows o)) (held_at held o)
      (λ k x. record {
        there = let l = begins_length es more b in let t = x.there in omega arith;
        its = λ d. x.its d ∙ ap (λ (e : Entry). e.row) (sym (begins_at es more k d b x.there));
      }) (it.are o);
}

-- none is held at first
pub held_new : (es : List Entry) (outputs : ℕ) (held : List (Option ℕ)) (rows : List (List Cell))
    → held ≡ replicate outputs None → IsHeld es outputs held rows
held_new es outputs held rows none = record {
  count = ap length none ∙ length-replicate outputs None;
  are = λ o. subst (λ (r : Option ℕ). IfSome r (IsRowAt es (row_at rows o)))
      (sym (ap (λ (l : List (Option ℕ)). held_at l o) none ∙ none_there ℕ outputs o)) tt;
}
