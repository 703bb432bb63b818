-- The blocks that words show.
use Rattle.std.proofs.Common.{◌⊎◌, ⊎_elim, inl, inr, cond, ◌≡◌, ℕ, suc, ◌+◌, ◌<◌, Bool, true, false}
use Rattle.std.proofs.Common.{List, [], ◌∷◌, length, map, get_or, refl, sym, ap, ◌∙◌, arith}
use Rattle.std.proofs.Common.{true≢false, add-zero}
use Rattle.std.specs.Prelude.{Some, None, ℤ, pos}
use Rattle.std.specs.List.{range_with_len}
use Rattle.std.proofs.lemmas.Bool.Decides.{nat_tests}
use mathlib.Core.Logic.{dite}
use native.Mathlib.Decide.{ℕ_discrete}
use Rattle.list_laws.proofs.Ranges.{map_same_below}
use Rattle.std.proofs.lemmas.Option.{none-some}
use Rattle.input_rule.proofs.Steps.{first_zero}
use Rattle.input_rule.specs.WordsStay.{BlocksSettle, BlocksStay, StartsEmpty}
use Rattle.input_rule.specs.declared.view.Shape.{Shape}
use Rattle.input_rule.specs.Words.{first_words, AreLater, HasTick, IsAbsent, IsPresent, block_at}
use Rattle.input_rule.specs.Words.{block_len, is_present, presence, sample_at, samples_at}

pub present_is : (shape : Shape) (words : List ℕ) (tick : ℕ) → HasTick shape tick
    → IsPresent shape words tick → is_present shape words tick ≡ true
present_is shape words tick inside there = let a = inside.0 in let b = inside.1 in
    grind (arith, nat_tests)

pub absent_is : (shape : Shape) (words : List ℕ) (tick : ℕ) → IsAbsent shape words tick
    → is_present shape words tick ≡ false
absent_is shape words tick gone = grind (arith, nat_tests)

pub inside_is : (shape : Shape) (words : List ℕ) (tick : ℕ) → is_present shape words tick ≡ true
    → HasTick shape tick × IsPresent shape words tick
inside_is shape words tick there =
    ((grind (arith, nat_tests), grind (arith, nat_tests)), grind (arith, nat_tests))

-- lists that are told place by place
pub spells : (f : ℕ → ℤ) (xs : List ℤ) (from : ℕ)
    → ((p : ℕ) → p < length xs → f (from + p) ≡ get_or xs p (pos 0))
    → map f (range_with_len from (length xs)) ≡ xs
spells f [] from same = refl
spells f (x ∷ xs) from same = λ k. (ap f (sym (add-zero from)) ∙ same 0 (omega arith)) k ∷ spells f
    xs (from + 1)
    (λ p lt. ap f (omega arith) ∙ same (suc p) (omega arith)) k

-- a block that is there
pub block_there : (shape : Shape) (words : List ℕ) (tick : ℕ) → HasTick shape tick
    → IsPresent shape words tick
    → block_at shape words tick ≡ Some (samples_at shape words tick)
block_there shape words tick inside there =
    ap (λ (b : Bool). cond b (Some (samples_at shape words tick)) None)
    (present_is shape words tick inside there)

-- a block that is not there
pub block_gone : (shape : Shape) (words : List ℕ) (tick : ℕ) → IsAbsent shape words tick
    → block_at shape words tick ≡ None
block_gone shape words tick gone =
    ap (λ (b : Bool). cond b (Some (samples_at shape words tick)) None)
    (absent_is shape words tick gone)

-- each tick has a block that is there, or none
pub block_cases : (shape : Shape) (words : List ℕ) (tick : ℕ)
    → ((HasTick shape tick × IsPresent shape words tick)
    × (block_at shape words tick ≡ Some (samples_at shape words tick)))
    ⊎ ((is_present shape words tick ≡ false) × (block_at shape words tick ≡ None))
block_cases shape words tick = by (is_present shape words tick) refl
  where
    by : (b : Bool) → is_present shape words tick ≡ b
        → ((HasTick shape tick × IsPresent shape words tick)
        × (block_at shape words tick ≡ Some (samples_at shape words tick)))
        ⊎ ((is_present shape words tick ≡ false) × (block_at shape words tick ≡ None))
    by true e = inl (
      inside_is shape words tick e,
      ap (λ (b : Bool). cond b (Some (samples_at shape words tick)) None) e,
    )
    by false e = inr (e, ap (λ (b : Bool). cond b (Some (samples_at shape words tick)) None) e)

-- a block that is there stays as it is
pub block_stays : (shape : Shape) (before after : List ℕ) → AreLater shape before after → (tick : ℕ)
    → HasTick shape tick
    → IsPresent shape before tick → block_at shape after tick ≡ block_at shape before tick
block_stays shape before after later tick inside there =
    block_there shape after tick inside (later.stays tick inside there)
    ∙ (ap (λ (xs : List ℤ). Some xs)
    (map_same_below (sample_at shape after tick) (sample_at shape before tick) (block_len shape)
    (λ p lt. later.same tick p inside lt there)) ∙ sym (block_there shape before tick inside there))

pub blocks_stay : BlocksStay
blocks_stay shape before after later tick block e =
    ⊎_elim (λ here. block_stays shape before after later tick here.0.0 here.0.1 ∙ e)
    (λ gone. absurd (none-some block (sym gone.1 ∙ e)))
    (block_cases shape before tick)

pub blocks_settle : BlocksSettle
blocks_settle shape before after shown later tick late =
    ⊎_elim (λ here. block_stays shape before after later tick here.0.0 here.0.1)
    (λ gone. ⊎_elim (λ here. absurd (bad here.0 gone.0)) (λ still. still.1 ∙ sym gone.1)
    (block_cases shape after tick))
    (block_cases shape before tick)
  where
    bad : HasTick shape tick × IsPresent shape after tick → is_present shape before tick ≡ false → ⊥
    bad here idle = dite (ℕ_discrete (get_or before (presence shape tick) 0) 1)
        (λ there. true≢false (sym (present_is shape before tick here.0 there) ∙ idle))
        (λ apart. let low = shown.presence tick here.0 in let now = here.1 in
        let gone = later.settled tick here.0 late (omega arith) in omega arith)

-- no block is there at the start
pub starts_empty : StartsEmpty
starts_empty shape = (
  refl,
  λ tick. block_gone shape (first_words shape) tick
      (first_zero shape (presence shape tick) (omega arith)),
)
