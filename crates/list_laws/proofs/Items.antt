-- Items of lists: of two lists one after the other, of a list with one item more, and of a list
-- with one item put.
use Rattle.std.proofs.Common.{◌≡◌, ◌≢◌, ℕ, zero, suc, ◌+◌, ◌<◌, ◌⊎◌, inl, inr}
use Rattle.std.proofs.Common.{Bool, cond, List, [], ◌∷◌, ◌++◌, length, get_or, set, take, drop}
use Rattle.std.proofs.Common.{Some, refl, sym, ap, subst, arith, length-append}
use Rattle.std.specs.Prelude.{All, slice_get}
use Rattle.std.specs.List.{count_by}
use Rattle.std.proofs.lemmas.Bool.{cases_lt}
use Rattle.std.proofs.lemmas.List.{get_or_append_left, length-take, get_or-drop, get_or-take, get_or_past}
use Rattle.std.proofs.lemmas.List.Elements.{All-tail}
use Rattle.std.proofs.lemmas.List.Sums.{sum_by-append}
use mathlib.Core.Option.{some, some-injective, some-ne-none}
use lib.ListN.{get_elem?}

-- ---- two lists, one after the other

-- what holds of all items holds of those of the first list
pub All-left : {X : Type 0} (P : X → Type 0) (xs ys : List X) → All P (xs ++ ys) → All P xs
All-left P xs ys all k d within = subst P (get_or_append_left xs ys d k within) (all k d (omega (arith, within, length-append xs ys)))

-- and of those of the second
pub All-right : {X : Type 0} (P : X → Type 0) (xs ys : List X) → All P (xs ++ ys) → All P ys
All-right P [] ys all = all
All-right P (x ∷ xs) ys all = All-right P xs ys (All-tail P x (xs ++ ys) all)

-- how many pass
pub count_by-append : {X : Type 0} (p : X → Bool) (xs ys : List X) → count_by p (xs ++ ys) ≡ count_by p xs + count_by p ys
count_by-append p xs ys = sum_by-append (λ x. cond (p x) 1 0) xs ys

-- ---- a part of a list

-- what holds at each place of a list, of the default past its end too, holds after its first items
pub drop_each : {X : Type 0} (P : X → Type 0) (n : ℕ) (xs : List X) (d : X) → ((k : ℕ) → P (get_or xs k d)) → (k : ℕ)
    → P (get_or (drop n xs) k d)
drop_each P n xs d each k = rw get_or-drop (each (n + k))

-- and so among its first items
pub take_each : {X : Type 0} (P : X → Type 0) (n : ℕ) (xs : List X) (d : X) → P d → ((k : ℕ) → P (get_or xs k d))
    → (k : ℕ) → P (get_or (take n xs) k d)
take_each P n xs d past each k = elim (cases_lt k n) [
  | inl inside ↦ rw (get_or-take n xs k d inside) (each k)
  | inr behind ↦ rw (get_or_past (take n xs) k d (omega (arith, length-take n xs))) past
]

-- ---- one item more

-- an item of the list is an old one, or the new one at the end
pub slice_get-push : {X : Type 0} (xs : List X) (y : X) (k : ℕ) (x : X) → slice_get (xs ++ y ∷ []) k ≡ Some x
    → ((slice_get xs k ≡ Some x) × (k < length xs)) ⊎ ((k ≡ length xs) × (y ≡ x))
slice_get-push [] y zero x e = let same : y ≡ x = cc in inr (refl, same)
slice_get-push [] y (suc k) x e = absurd cc
slice_get-push (z ∷ xs) y zero x e = inl (e, omega arith)
slice_get-push (z ∷ xs) y (suc k) x e = elim (slice_get-push xs y k x e) [
  | inl old ↦ inl (old.0, let within = old.1 in omega (arith, within))
  | inr new ↦ inr (ap suc new.0, new.1)
]

-- ---- one item put

-- what holds of the item put, and of each other item at its place, holds of each item at its place
pub set_keeps : {X : Type 0} (K : ℕ → X → Type 0) (xs : List X) (at : ℕ) (x : X) → K at x
    → ((k : ℕ) (y : X) → k ≢ at → get_elem? xs k ≡ some y → K k y)
    → (k : ℕ) (y : X) → get_elem? (set xs at x) k ≡ some y → K k y
set_keeps K [] at x here others k y e = absurd (some-ne-none y (sym e))
set_keeps K (z ∷ xs) zero x here others zero y e = subst (K 0) (some-injective x y e) here
set_keeps K (z ∷ xs) zero x here others (suc k) y e = others (suc k) y (λ same. absurd (omega (arith, same))) e
set_keeps K (z ∷ xs) (suc at) x here others zero y e = others 0 y (λ same. absurd (omega (arith, same))) e
set_keeps K (z ∷ xs) (suc at) x here others (suc k) y e =
    set_keeps (λ j. K (suc j)) xs at x here (λ j u apart there. others (suc j) u (λ same. apart (omega (arith, same))) there) k y e
