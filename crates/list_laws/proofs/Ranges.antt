-- Numbers that follow one another, and what is made of each.
use Rattle.std.proofs.Common.{◌≡◌, ℕ, zero, suc, ◌+◌, ◌<◌, ◌≤◌, Bool, List}
use Rattle.std.proofs.Common.{[], ◌∷◌, ◌++◌, map, refl, sym, ap, ◌∙◌, subst, arith}
use Rattle.std.specs.Prelude.{◌||◌}
use Rattle.std.specs.List.{flat_map, list_any, range_with_len}
use Rattle.std.proofs.lemmas.List.{append-nil}
use Rattle.std.proofs.lemmas.List.Concat.{flat_map-cons}
use Rattle.std.proofs.lemmas.Grind.{flat_map-append}

-- ---- a range in parts

-- the first n numbers from one on, and the m after them
pub range_parts : (a n m : ℕ) → range_with_len a (n + m) ≡ range_with_len a n ++ range_with_len (a + n) m
range_parts a zero m =
    let none : a + 0 ≡ a = omega arith in
    let rest : 0 + m ≡ m = omega arith in
    rw (none, rest) refl
range_parts a (suc n) m =
    let more : suc n + m ≡ suc (n + m) = omega arith in
    let behind : a + suc n ≡ a + 1 + n = omega arith in
    rw (more, behind) (ap (λ (ks : List ℕ). a ∷ ks) (range_parts (a + 1) n m))

-- one number more
pub range_more : (a n : ℕ) → range_with_len a (suc n) ≡ range_with_len a n ++ (a + n) ∷ []
range_more a n = let more : n + 1 ≡ suc n = omega arith in
    subst (λ (k : ℕ). range_with_len a k ≡ range_with_len a n ++ (a + n) ∷ []) more (range_parts a n 1)

-- what is made of the numbers from 0 on, one number more
pub flat_map_more : {X : Type 0} (f : ℕ → List X) (n : ℕ)
    → flat_map f (range_with_len 0 (n + 1)) ≡ flat_map f (range_with_len 0 n) ++ f n
flat_map_more {X} f n =
    let last : 0 + n ≡ n = omega arith in
    ap (flat_map f) (range_parts 0 n 1 ∙ ap (λ (k : ℕ). range_with_len 0 n ++ k ∷ []) last)
    ∙ flat_map-append f (range_with_len 0 n) (n ∷ [])
    ∙ ap (λ (made : List X). flat_map f (range_with_len 0 n) ++ made) (flat_map-cons f n [] ∙ append-nil (f n))

-- ---- functions that agree over a range

-- what they make of each number
pub map_same : {X : Type 0} (f g : ℕ → X) (a n : ℕ) → ((k : ℕ) → a ≤ k → k < a + n → f k ≡ g k)
    → map f (range_with_len a n) ≡ map g (range_with_len a n)
map_same f g a zero same = refl
map_same {X} f g a (suc n) same =
    ap (λ (x : X). x ∷ map f (range_with_len (a + 1) n)) (same a (omega arith) (omega arith))
    ∙ ap (λ (xs : List X). g a ∷ xs) (map_same f g (a + 1) n (λ k from to. same k (omega (arith, from)) (omega (arith, to))))

-- the same from 0 on
pub map_same_below : {X : Type 0} (f g : ℕ → X) (n : ℕ) → ((k : ℕ) → k < n → f k ≡ g k)
    → map f (range_with_len 0 n) ≡ map g (range_with_len 0 n)
map_same_below f g n same = map_same f g 0 n (λ k from to. same k (omega (arith, to)))

-- the lists that they make, one after the other
pub flat_map_same : {X : Type 0} (f g : ℕ → List X) (a n : ℕ) → ((k : ℕ) → a ≤ k → k < a + n → f k ≡ g k)
    → flat_map f (range_with_len a n) ≡ flat_map g (range_with_len a n)
flat_map_same f g a zero same = refl
flat_map_same {X} f g a (suc n) same =
    flat_map-cons f a (range_with_len (a + 1) n)
    ∙ ap (λ (x : List X). x ++ flat_map f (range_with_len (a + 1) n)) (same a (omega arith) (omega arith))
    ∙ ap (λ (xs : List X). g a ++ xs) (flat_map_same f g (a + 1) n (λ k from to. same k (omega (arith, from)) (omega (arith, to))))
    ∙ sym (flat_map-cons g a (range_with_len (a + 1) n))

-- whether one of the numbers passes
pub any_same : (p q : ℕ → Bool) (a n : ℕ) → ((k : ℕ) → a ≤ k → k < a + n → p k ≡ q k)
    → list_any p (range_with_len a n) ≡ list_any q (range_with_len a n)
any_same p q a zero same = refl
any_same p q a (suc n) same =
    ap (λ (b : Bool). b || list_any p (range_with_len (a + 1) n)) (same a (omega arith) (omega arith))
    ∙ ap (λ (b : Bool). q a || b) (any_same p q (a + 1) n (λ k from to. same k (omega (arith, from)) (omega (arith, to))))
