-- The lowest channel that does not pass: laws.
use Rattle.std.proofs.Common.{◌≡◌, ℕ, zero, suc, ◌+◌, ◌<◌, ◌≤◌, Bool, true, false}
use Rattle.std.proofs.Common.{List, [], ◌∷◌, length, None, inl, inr, refl, sym, zero-add, arith}
use Rattle.std.specs.Prelude.{not, find}
use Rattle.std.specs.List.{range_with_len}
use Rattle.std.proofs.lemmas.Bool.{cases_Bool, cases_lt, not-false}
use Rattle.std.proofs.lemmas.Option.{none-some}
use Rattle.io_caps.specs.declared.port.Input.{Input}
use Rattle.map_entry.specs.declared.cell.Cell.{Cell}
use Rattle.map_entry.specs.declared.cell.Cell.TheVariants.{Unrouted}
use Rattle.map_entry.specs.Row.{cell_at, lowest_out, is_channel_there, IsChannelThere}

none_next : (f : ℕ → Bool) (a n k : ℕ) → f a ≡ false
    → ((j : ℕ) → find f (range_with_len (a + 1) n) ≡ None → j < n → f (a + 1 + j) ≡ false) → find f (range_with_len (a + 1) n) ≡ None
    → k < suc n → f (a + k) ≡ false
none_next f a n zero missed rest none lt = let here : a + 0 ≡ a = omega arith in rw here missed
none_next f a n (suc k) missed rest none lt = let next : a + suc k ≡ a + 1 + k = omega arith in rw next (rest k none (omega (arith, lt)))

-- of a range in which none is found
none_from : (f : ℕ → Bool) (a n k : ℕ) → find f (range_with_len a n) ≡ None → k < n → f (a + k) ≡ false
none_from f a zero k none lt = absurd (omega (arith, lt))
none_from f a (suc n) k none lt = elim (cases_Bool (f a)) [
  | inl hit ↦ absurd (none-some a (sym (rw hit at none)))
  | inr missed ↦ none_next f a n k missed (none_from f (a + 1) n) (rw missed at none) lt
]

-- of a range in which no number fits
all_from : (f : ℕ → Bool) (a n : ℕ) → ((k : ℕ) → k < n → f (a + k) ≡ false) → find f (range_with_len a n) ≡ None
all_from f a zero each = refl
all_from f a (suc n) each =
    let here : a + 0 ≡ a = omega arith in
    rw (rw here at (each 0 (omega arith)))
    (all_from f (a + 1) n (λ k lt. let next : a + suc k ≡ a + 1 + k = omega arith in rw next at (each (suc k) (omega (arith, lt)))))

-- past its end a row has no cell
past_end : (row : List Cell) (k : ℕ) → length row ≤ k → cell_at row k ≡ Unrouted
past_end [] k past = refl
past_end (c ∷ row) zero past = absurd (omega arith)
past_end (c ∷ row) (suc k) past = past_end row k (omega arith)

-- where no channel fails, each passes
pub lowest_none : (passes : ℕ → Cell → Bool) (row : List Cell) (k : ℕ) → lowest_out passes row ≡ None → k < length row
    → passes k (cell_at row k) ≡ true
lowest_none passes row k none lt = not-false (passes k (cell_at row k))
    (rw (zero-add k) at (none_from (λ c. not (passes c (cell_at row c))) 0 (length row) k none lt))

-- and where each passes, none fails
pub lowest_all : (passes : ℕ → Cell → Bool) (row : List Cell) → ((k : ℕ) → k < length row → passes k (cell_at row k) ≡ true)
    → lowest_out passes row ≡ None
lowest_all passes row each = all_from (λ c. not (passes c (cell_at row c))) 0 (length row) (λ k lt. rw (zero-add k, each k lt) refl)

-- where no channel names one that is not there, each cell's channel is there, also past the end
pub all_there : (inputs : List Input) (row : List Cell) → lowest_out (λ channel. is_channel_there inputs) row ≡ None → (k : ℕ)
    → IsChannelThere inputs (cell_at row k)
all_there inputs row none k = elim (cases_lt k (length row)) [
  | inl within ↦ rw (lowest_none (λ channel. is_channel_there inputs) row k none within) refl
  | inr past ↦ rw (past_end row k (omega (arith, past))) refl
]
