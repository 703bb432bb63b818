-- Sums over views of which one changes, or which grow by one.
use Rattle.std.proofs.Common.{◌≡◌, ◌≢◌, ℕ, zero, suc, ◌+◌, ◌<◌, ◌≤◌, ◌==◌, cond, List}
use Rattle.std.proofs.Common.{[], ◌∷◌, length, get_or, set, refl, sym, ap, ◌∙◌, subst, arith}
use Rattle.std.proofs.lemmas.Bool.Decides.{nat_tests}
use Rattle.std.proofs.lemmas.List.Sums.{sum_by-set, sum_by-cons}
use Rattle.std.specs.List.{sum_by}
use mathlib.Core.Option.{some, some-injective, some-ne-none}
use lib.ListN.{get_elem?}
use Rattle.atomic_table.proofs.Lists.{set_else}
use Rattle.claim_rule.specs.Views.{once_below}

index_of : {A : Type 0} (l : List A) (i : ℕ) (a d : A) → get_elem? l i ≡ some a
    → (i < length l) × (get_or l i d ≡ a)
index_of [] i a d e = absurd (some-ne-none a (sym e))
index_of (x ∷ xs) zero a d e = (omega arith, some-injective x a e)
index_of (x ∷ xs) (suc i) a d e = let h = index_of xs i a d e in (omega (arith, h.0), h.1)

-- one term changes
pub total_set : {A : Type 0} (f : A → ℕ) (l : List A) (i : ℕ) (v w : A) → get_elem? l i ≡ some v
    → sum_by f (set l i w) + f v ≡ sum_by f l + f w
total_set {A} f l i v w at =
    let h = index_of l i v v at in
    subst (λ (z : A). sum_by f (set l i w) + f z ≡ sum_by f l + f w) h.1 (sum_by-set f l i w v h.0)

pub same_total : {A : Type 0} (f : A → ℕ) (l : List A) (i : ℕ) (v w : A) → get_elem? l i ≡ some v
    → f w ≡ f v
    → sum_by f (set l i w) ≡ sum_by f l
same_total f l i v w at same = let t = total_set f l i v w at in omega arith

-- one of the terms
pub one_of : {A : Type 0} (f : A → ℕ) (l : List A) (i : ℕ) (v : A) → get_elem? l i ≡ some v
    → f v ≤ sum_by f l
one_of f [] i v e = absurd (some-ne-none v (sym e))
one_of {A} f (x ∷ xs) zero v e = let s : f x ≡ f v = ap f (some-injective x v e) in
    let c = sum_by-cons f x xs in omega arith
one_of f (x ∷ xs) (suc i) v e = let r : f v ≤ sum_by f xs = one_of f xs i v e in
    let c = sum_by-cons f x xs in omega arith

-- each term is at most another's
pub each_less : {A : Type 0} (f g : A → ℕ) (l : List A)
    → ((i : ℕ) (v : A) → get_elem? l i ≡ some v → f v ≤ g v) → sum_by f l ≤ sum_by g l
each_less f g [] h = omega arith
each_less f g (x ∷ xs) h =
    let a = h zero x refl in
    let b : sum_by f xs ≤ sum_by g xs = each_less f g xs (λ i v e. h (suc i) v e) in
    let c = sum_by-cons f x xs in let d = sum_by-cons g x xs in omega arith

-- and one of them by what is known of it
pub one_less : {A : Type 0} (f g : A → ℕ) (l : List A) (i : ℕ) (v : A) → get_elem? l i ≡ some v
    → ((j : ℕ) (u : A) → get_elem? l j ≡ some u → f u ≤ g u) → sum_by f l + g v ≤ sum_by g l + f v
one_less f g [] i v e h = absurd (some-ne-none v (sym e))
one_less f g (x ∷ xs) zero v e h =
    let s : f x ≡ f v = ap f (some-injective x v e) in
    let t : g x ≡ g v = ap g (some-injective x v e) in
    let b : sum_by f xs ≤ sum_by g xs = each_less f g xs (λ i v e. h (suc i) v e) in
    let c = sum_by-cons f x xs in let d = sum_by-cons g x xs in omega arith
one_less f g (x ∷ xs) (suc i) v e h =
    let a = h zero x refl in
    let r : sum_by f xs + g v ≤ sum_by g xs + f v =
    one_less f g xs i v e (λ i v e. h (suc i) v e) in
    let c = sum_by-cons f x xs in let d = sum_by-cons g x xs in omega arith

-- the others are 0
all_zero : {A : Type 0} (f : A → ℕ) (l : List A)
    → ((j : ℕ) (u : A) → get_elem? l j ≡ some u → f u ≡ 0) → sum_by f l ≡ 0
all_zero f [] h = refl
all_zero f (x ∷ xs) h =
    let z : f x ≡ 0 = h zero x refl in let c = sum_by-cons f x xs in
    let r : sum_by f xs ≡ 0 = all_zero f xs (λ j u t. h (suc j) u t) in omega arith

pub alone : {A : Type 0} (f : A → ℕ) (l : List A) (i : ℕ) (v : A) → get_elem? l i ≡ some v
    → ((j : ℕ) (u : A) → j ≢ i → get_elem? l j ≡ some u → f u ≡ 0) → sum_by f l ≡ f v
alone f [] i v e h = absurd (some-ne-none v (sym e))
alone f (x ∷ xs) zero v e h =
    let s : f x ≡ f v = ap f (some-injective x v e) in let c = sum_by-cons f x xs in
    let z : sum_by f xs ≡ 0 = all_zero f xs (λ j u t. h (suc j) u (λ bad. absurd (omega arith)) t)
    in omega arith
alone f (x ∷ xs) (suc i) v e h =
    let z : f x ≡ 0 = h zero x (λ bad. absurd (omega arith)) refl in let c = sum_by-cons f x xs in
    let r : sum_by f xs ≡ f v =
    alone f xs i v e (λ j u n t. h (suc j) u (λ same. n (omega arith)) t) in omega arith

-- two of the terms
pub two_of : {A : Type 0} (f : A → ℕ) (l : List A) (i j : ℕ) (v u w : A) → f w ≡ 0
    → get_elem? l i ≡ some v → get_elem? l j ≡ some u
    → j ≢ i
    → f u + f v ≤ sum_by f l
two_of f l i j v u w none at there apart =
    let t = total_set f l i v w at in
    let o = one_of f (set l i w) j u (set_else l i j w apart ∙ there) in omega arith

-- one number more
pub once_more : (x n : ℕ) → once_below x n + cond (n == x) 1 0 ≡ once_below x (n + 1)
once_more x n = grind (arith, nat_tests)
