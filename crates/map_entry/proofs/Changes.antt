-- Rows with changes: laws.
use Rattle.std.proofs.Common.{◌≡◌, ◌≢◌, ℕ, zero, suc, ◌+◌, ◌<◌, Bool, List}
use Rattle.std.proofs.Common.{[], ◌∷◌, length, Option, Some, None, inl, inr, refl, sym, ap, ◌∙◌, subst, arith}
use Rattle.std.specs.Prelude.{eqb, All, IfSome, slice_get, slice_set}
use Rattle.std.specs.List.{find}
use Rattle.std.proofs.lemmas.Bool.{cases_Bool}
use Rattle.std.proofs.Math.ListN.{length-set}
use Rattle.std.proofs.lemmas.List.Elements.{All-head, All-tail, All-cons, All-nil}
use Rattle.map_entry.specs.declared.cell.Cell.{Cell}
use Rattle.map_entry.specs.declared.change.Change.{Change}
use Rattle.map_entry.specs.Action.{OutputChangeParts, AreAscending, IsAction, IsOutputChange, NamesChannels, FitsRow}
use Rattle.map_entry.specs.Action.{HasNamedCells, KeepsOtherCells, with_changes, change_of, applied_by, applied}

-- the row stays as long as it was
pub length-with_changes : (changes : List Change) (row : List Cell) → length (with_changes changes row) ≡ length row
length-with_changes [] row = refl
length-with_changes (c ∷ cs) row = length-with_changes cs _ ∙ length-set row c.channel c.cell

pub length-applied_by : (row : List Cell) (change : Option OutputChangeParts) → length (applied_by change row) ≡ length row
length-applied_by row None = refl
length-applied_by row (Some c) = length-with_changes c.changes row

pub length-applied : (row : List Cell) (action : List OutputChangeParts) (output : ℕ) → length (applied row action output) ≡ length row
length-applied row action output = length-applied_by row (change_of action output)

-- ---- one cell set

set_here : {X : Type 0} (xs : List X) (k : ℕ) (x : X) → k < length xs → slice_get (slice_set xs k x) k ≡ Some x
set_here [] k x within = absurd (omega (arith, within))
set_here (y ∷ xs) zero x within = refl
set_here (y ∷ xs) (suc k) x within = set_here xs k x (omega (arith, within))

set_other : {X : Type 0} (xs : List X) (k j : ℕ) (x : X) → k ≢ j → slice_get (slice_set xs k x) j ≡ slice_get xs j
set_other [] k j x other = refl
set_other (y ∷ xs) zero zero x other = absurd (other refl)
set_other (y ∷ xs) zero (suc j) x other = refl
set_other (y ∷ xs) (suc k) zero x other = refl
set_other (y ∷ xs) (suc k) (suc j) x other = set_other xs k j x (λ same. other (ap suc same))

-- ---- all of them

-- a channel that is not named keeps its cell
pub with_changes-kept : (changes : List Change) (row : List Cell) (channel : ℕ) → All (λ c. c.channel ≢ channel) changes
    → slice_get (with_changes changes row) channel ≡ slice_get row channel
with_changes-kept [] row channel others = refl
with_changes-kept (c ∷ cs) row channel others =
    with_changes-kept cs _ channel (All-tail (λ (x : Change). x.channel ≢ channel) c cs others)
    ∙ set_other row c.channel channel c.cell (All-head (λ (x : Change). x.channel ≢ channel) c cs others)

-- the items after the first ascend, and have greater numbers
behind : {X : Type 0} (n : X → ℕ) (x : X) (xs : List X) → AreAscending n (x ∷ xs) → AreAscending n xs
behind n x xs up k d within = let place : suc k + 1 ≡ suc (k + 1) = omega arith in rw place at (up (suc k) d (omega (arith, within)))

above : {X : Type 0} (n : X → ℕ) (low : ℕ) (x : X) (xs : List X) → low < n x → AreAscending n (x ∷ xs) → All (λ y. n y ≢ low) (x ∷ xs)
above n low x [] less up = All-cons (λ y. n y ≢ low) x [] (λ same. absurd (omega (arith, less, same))) (All-nil (λ y. n y ≢ low))
above n low x (y ∷ xs) less up =
    let next : n x < n y = up 0 x (omega arith) in
    All-cons (λ y. n y ≢ low) x (y ∷ xs) (λ same. absurd (omega (arith, less, same)))
    (above n low y xs (omega (arith, less, next)) (behind n x (y ∷ xs) up))

others_above : {X : Type 0} (n : X → ℕ) (x : X) (xs : List X) → AreAscending n (x ∷ xs) → All (λ y. n y ≢ n x) xs
others_above n x [] up = All-nil (λ y. n y ≢ n x)
others_above n x (y ∷ xs) up = above n (n x) y xs (up 0 x (omega arith)) (behind n x (y ∷ xs) up)

-- a channel that is named has its cell
pub with_changes-named : (changes : List Change) (row : List Cell) → AreAscending (λ c. c.channel) changes → All (λ c. c.channel < length row) changes
    → All (λ c. slice_get (with_changes changes row) c.channel ≡ Some c.cell) changes
with_changes-named [] row up within = All-nil (λ (c : Change). slice_get row c.channel ≡ Some c.cell)
with_changes-named (c ∷ cs) row up within =
    let made : List Cell = slice_set row c.channel c.cell in
    let long : length row ≡ length made = sym (length-set row c.channel c.cell) in
    let rest = All-tail (λ (x : Change). x.channel < length row) c cs within in
    let head = with_changes-kept cs made c.channel (others_above (λ (x : Change). x.channel) c cs up)
    ∙ set_here row c.channel c.cell (All-head (λ (x : Change). x.channel < length row) c cs within) in
    All-cons (λ (x : Change). slice_get (with_changes cs made) x.channel ≡ Some x.cell) c cs head
    (with_changes-named cs made (behind (λ (x : Change). x.channel) c cs up) (subst (λ (n : ℕ). All (λ (x : Change). x.channel < n) cs) long rest))

-- ---- an action

-- what is found has what all have
found : {X : Type 0} (P : X → Type 0) (p : X → Bool) (xs : List X) → All P xs → IfSome (find p xs) P
found P p [] all = tt
found P p (x ∷ xs) all = elim (cases_Bool (p x)) [
  | inl hit ↦ rw hit (All-head P x xs all)
  | inr missed ↦ rw missed (found P p xs (All-tail P x xs all))
]

named_by : (change : Option OutputChangeParts) (row : List Cell) → IfSome change IsOutputChange → IfSome change (NamesChannels (length row))
    → IfSome change (λ c. All (λ x. slice_get (applied_by change row) x.channel ≡ Some x.cell) c.changes)
named_by None row up within = tt
named_by (Some c) row up within = with_changes-named c.changes row up within

kept_by : (change : Option OutputChangeParts) (row : List Cell) (channel : ℕ) → IfSome change (λ c. All (λ x. x.channel ≢ channel) c.changes)
    → slice_get (applied_by change row) channel ≡ slice_get row channel
kept_by None row channel others = refl
kept_by (Some c) row channel others = with_changes-kept c.changes row channel others

-- a named channel has its cell
pub applied-named : (row : List Cell) (action : List OutputChangeParts) (output : ℕ) → IsAction action → FitsRow action output (length row)
    → HasNamedCells action output (applied row action output)
applied-named row action output is fits = named_by (change_of action output) row (found IsOutputChange (λ c. eqb c.output output) action is.changes) fits

-- any other keeps its own
pub applied-kept : (row : List Cell) (action : List OutputChangeParts) (output : ℕ) → KeepsOtherCells action output row (applied row action output)
applied-kept row action output channel others = kept_by (change_of action output) row channel others

-- changes leave a row as long as it was
pub ruleset lengths = (length-with_changes, length-applied)
