-- Lists over the numbers below one, and equal functions.
use Rattle.std.proofs.Common.{◌≡◌, ℕ, zero, suc, ◌+◌, ◌<◌, List, ◌∷◌}
use Rattle.std.proofs.Common.{map, set, sym, ap, ◌∙◌, arith, zero-add}
use Rattle.std.specs.List.{range_with_len}
use Rattle.list_laws.proofs.Ranges.{map_same}

pub both : {X Y Z : Type 0} (f : X → Y → Z) {x y : X} {u v : Y} → x ≡ y → u ≡ v → f x u ≡ f y v
both f p q = λ i. f (p i) (q i)

-- functions that agree everywhere are the same
pub alike : {X Y : Type 0} {f g : X → Y} → ((x : X) → f x ≡ g x) → f ≡ g
alike h = λ i x. h x i

set_from : {X : Type 0} (f g : ℕ → X) (a n i : ℕ) (x : X) → i < n → x ≡ g (a + i)
    → ((j : ℕ) → j < a + n → (j ≡ a + i → ⊥) → f j ≡ g j)
    → set (map f (range_with_len a n)) i x ≡ map g (range_with_len a n)
set_from f g a zero i x lt is same = absurd (omega (arith, lt))
set_from {X} f g a (suc n) zero x lt is same =
    let at : a + 0 ≡ a = omega arith in
    both (λ (y : X) (ys : List X). y ∷ ys) (is ∙ ap g at)
    (map_same f g (a + 1) n
    (λ j le below. same j (omega (arith, below)) (λ e. omega (arith, e, le))))
set_from {X} f g a (suc n) (suc i) x lt is same =
    let at : a + suc i ≡ a + 1 + i = omega arith in
    both (λ (y : X) (ys : List X). y ∷ ys) (same a (omega arith) (λ e. omega (arith, e)))
    (set_from f g (a + 1) n i x (omega (arith, lt)) (is ∙ ap g at)
    (λ j below other. same j (omega (arith, below)) (λ e. other (omega (arith, e)))))

-- functions that agree below n but at one place
pub set_range : {X : Type 0} (f g : ℕ → X) (n i : ℕ) (x : X) → i < n → x ≡ g i
    → ((j : ℕ) → j < n → (j ≡ i → ⊥) → f j ≡ g j)
    → set (map f (range_with_len 0 n)) i x ≡ map g (range_with_len 0 n)
set_range f g n i x lt is same =
    set_from f g 0 n i x lt (is ∙ ap g (sym (zero-add i)))
    (λ j below other. same j (omega (arith, below)) (λ e. other (omega (arith, e))))
