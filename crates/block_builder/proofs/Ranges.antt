-- Lists over ranges of numbers.
use Rattle.std.proofs.Common.{◌≡◌, ◌≢◌, ◌⊎◌, inl, inr, ℕ, zero, suc, ◌+◌, ◌-◌, ◌*◌, ◌<◌, ◌≤◌, Bool}
use Rattle.std.proofs.Common.{false, cond, List, [], ◌∷◌, ◌++◌, length, take, drop, refl, sym, ap}
use Rattle.std.proofs.Common.{◌∙◌, arith, zero-add}
use Rattle.std.specs.List.{count_by, flat_map, list_any, range_with_len, sum_by}
use Rattle.std.proofs.lemmas.Bool.{cases_eq, or_parts}
use Rattle.std.proofs.lemmas.List.{length-append}
use Rattle.std.proofs.lemmas.List.Concat.{flat_map-cons}
use Rattle.std.proofs.lemmas.List.Sums.{sum_by-cons}
use Rattle.std.proofs.lemmas.Grind.{flat_map-append}
use Rattle.std.proofs.Math.Seq.{take-append_seam, drop-append-add}
use Rattle.std.proofs.Math.Nat.{add-mul}
use Rattle.list_laws.proofs.Items.{count_by-append}
use Rattle.list_laws.proofs.Ranges.{flat_map_same, range_parts}

-- a range is the part below a number, the number, and the part above
pub range_split : (a i m : ℕ) → range_with_len a (i + suc m)
    ≡ range_with_len a i ++ (a + i) ∷ range_with_len (a + i + 1) m
range_split a zero m =
    let e : 0 + suc m ≡ suc m = omega arith in
    let z : a + 0 ≡ a = omega arith in
    rw (e, z) refl
range_split a (suc i) m =
    let e : suc i + suc m ≡ suc (i + suc m) = omega arith in
    let f : a + 1 + i ≡ a + suc i = omega arith in
    rw e (ap (λ (xs : List ℕ). a ∷ xs)
    (range_split (a + 1) i m ∙ ap (λ (k : ℕ). range_with_len (a + 1) i ++ k
    ∷ range_with_len (k + 1) m) f))

pub flat_map_long : {X : Type 0} (f : ℕ → List X) (c a n : ℕ)
    → ((k : ℕ) → a ≤ k → k < a + n → length (f k) ≡ c)
    → length (flat_map f (range_with_len a n)) ≡ n * c
flat_map_long {X} f c a zero h = omega arith
flat_map_long {X} f c a (suc n) h =
    let one = h a (omega arith) (omega arith) in
    let more = flat_map_long f c (a + 1) n
    (λ k le lt. h k (omega (arith, le)) (omega (arith, lt))) in
    let joined = length-append (f a) (flat_map f (range_with_len (a + 1) n)) in
    let m = add-mul n 1 c in
    let e : n + 1 ≡ suc n = omega arith in
    let t : (suc n) * c ≡ n * c + 1 * c = ap (λ (k : ℕ). k * c) (sym e) ∙ m in
    ap length (flat_map-cons f a (range_with_len (a + 1) n)) ∙ omega (arith, one, more, joined, t)

none_step : (g : ℕ → Bool) (a n k : ℕ) → g a ≡ false
    → ((j : ℕ) → a + 1 ≤ j → j < a + 1 + n → g j ≡ false) → a ≤ k → k < a + suc n
    → (k ≡ a) ⊎ (k ≢ a) → g k ≡ false
none_step g a n k here rest le lt (inl e) = ap g e ∙ here
none_step g a n k here rest le lt (inr ne) = rest k (omega (arith, le, ne)) (omega (arith, lt))

pub none_any : (g : ℕ → Bool) (a n : ℕ) → list_any g (range_with_len a n) ≡ false → (k : ℕ) → a ≤ k
    → k < a + n → g k ≡ false
none_any g a zero h k le lt = absurd (omega (arith, le, lt))
none_any g a (suc n) h k le lt =
    let both = or_parts (g a) (list_any g (range_with_len (a + 1) n)) h in
    none_step g a n k both.0 (none_any g (a + 1) n both.1) le lt (cases_eq k a)

-- one part of a list of parts of one length is replaced
pub part_replaced : {X : Type 0} (f g : ℕ → List X) (c i m : ℕ) (x : List X)
    → ((k : ℕ) → k < i + suc m → length (f k) ≡ c) → ((k : ℕ) → k < i → f k ≡ g k)
    → ((k : ℕ) → i < k → k < i + suc m → f k ≡ g k) → g i ≡ x
    → take (i * c) (flat_map f (range_with_len 0 (i + suc m)))
    ++ (x ++ drop (i * c + c) (flat_map f (range_with_len 0 (i + suc m))))
    ≡ flat_map g (range_with_len 0 (i + suc m))
part_replaced {X} f g c i m x long below above here =
    let before = flat_map f (range_with_len 0 i) in
    let after = flat_map f (range_with_len (i + 1) m) in
    let z : 0 + i ≡ i = zero-add i in
    let r : range_with_len 0 (i + suc m) ≡ range_with_len 0 i ++ i ∷ range_with_len (i + 1) m =
    range_split 0 i m ∙ ap (λ (k : ℕ). range_with_len 0 i ++ k ∷ range_with_len (k + 1) m) z in
    let split = λ (h : ℕ → List X). ap (flat_map h) r
    ∙ flat_map-append h (range_with_len 0 i) (i ∷ range_with_len (i + 1) m)
    ∙ ap (λ (t : List X). flat_map h (range_with_len 0 i) ++ t)
    (flat_map-cons h i (range_with_len (i + 1) m)) in
    let bl : length before ≡ i * c =
    flat_map_long f c 0 i (λ k le lt. long k (omega (arith, lt))) in
    let il : length (f i) ≡ c = long i (omega arith) in
    let t1 : take (i * c) (before ++ (f i ++ after)) ≡ before =
    ap (λ (k : ℕ). take k (before ++ (f i ++ after))) (sym bl)
    ∙ take-append_seam before (f i ++ after) in
    let d1 : drop (i * c + c) (before ++ (f i ++ after)) ≡ after =
    ap (λ (k : ℕ). drop (k + c) (before ++ (f i ++ after))) (sym bl)
    ∙ drop-append-add before (f i ++ after) c
    ∙ ap (λ (k : ℕ). drop k (f i ++ after)) (sym il ∙ omega arith)
    ∙ drop-append-add (f i) after 0 in
    let same_before : before ≡ flat_map g (range_with_len 0 i) =
    flat_map_same f g 0 i (λ k le lt. below k (omega (arith, lt))) in
    let same_after : after ≡ flat_map g (range_with_len (i + 1) m) =
    flat_map_same f g (i + 1) m (λ k le lt. above k (omega (arith, le)) (omega (arith, lt))) in
    ap (λ (whole : List X). take (i * c) whole ++ (x ++ drop (i * c + c) whole)) (split f)
    ∙ ap (λ (t : List X). t ++ (x ++ drop (i * c + c) (before ++ (f i ++ after)))) t1
    ∙ ap (λ (t : List X). before ++ (x ++ t)) d1
    ∙ ap (λ (t : List X). t ++ (x ++ after)) same_before
    ∙ ap (λ (t : List X). flat_map g (range_with_len 0 i) ++ (t ++ after)) (sym here)
    ∙ ap (λ (t : List X). flat_map g (range_with_len 0 i) ++ (g i ++ t)) same_after
    ∙ sym (split g)

-- ---- how many have a property

count_cons : {X : Type 0} (p : X → Bool) (x : X) (xs : List X)
    → count_by p (x ∷ xs) ≡ cond (p x) 1 0 + count_by p xs
count_cons p x xs = sum_by-cons (λ y. cond (p y) 1 0) x xs

pub count_none : (p : ℕ → Bool) (a n : ℕ) → ((k : ℕ) → a ≤ k → k < a + n → p k ≡ false)
    → count_by p (range_with_len a n) ≡ 0
count_none p a zero h = refl
count_none p a (suc n) h =
    count_cons p a (range_with_len (a + 1) n)
    ∙ ap (λ (b : Bool). cond b 1 0 + count_by p (range_with_len (a + 1) n))
    (h a (omega arith) (omega arith))
    ∙ zero-add (count_by p (range_with_len (a + 1) n))
    ∙ count_none p (a + 1) n (λ k le lt. h k (omega (arith, le)) (omega (arith, lt)))

-- one number more
pub count_more : (p : ℕ → Bool) (k : ℕ) (b : Bool) → p k ≡ b
    → count_by p (range_with_len 0 (k + 1)) ≡ count_by p (range_with_len 0 k) + cond b 1 0
count_more p k b e =
    let z : 0 + k ≡ k = zero-add k in
    ap (count_by p) (range_parts 0 k 1 ∙ ap (λ (j : ℕ). range_with_len 0 k ++ j ∷ []) z)
    ∙ count_by-append p (range_with_len 0 k) (k ∷ [])
    ∙ ap (λ (j : ℕ). count_by p (range_with_len 0 k) + j) (zero-add (cond (p k) 1 0))
    ∙ ap (λ (c : Bool). count_by p (range_with_len 0 k) + cond c 1 0) e

-- numbers more that have it not
pub count_rest : (p : ℕ → Bool) (k n : ℕ) → k ≤ n → ((f : ℕ) → k ≤ f → f < n → p f ≡ false)
    → count_by p (range_with_len 0 n) ≡ count_by p (range_with_len 0 k)
count_rest p k n le h =
    let e : n ≡ k + (n - k) = omega (arith, le) in
    let z : 0 + k ≡ k = zero-add k in
    let none = count_none p k (n - k) (λ f l lt. h f l (omega (arith, lt, le))) in
    let r : range_with_len 0 n ≡ range_with_len 0 k ++ range_with_len k (n - k) =
    ap (range_with_len 0) e ∙ range_parts 0 k (n - k)
    ∙ ap (λ (j : ℕ). range_with_len 0 k ++ range_with_len j (n - k)) z in
    let sum = ap (count_by p) r ∙ count_by-append p (range_with_len 0 k)
    (range_with_len k (n - k)) in
    omega (arith, sum, none)

-- ---- sums

pub sum_none : (g : ℕ → ℕ) (a n : ℕ) → ((k : ℕ) → a ≤ k → k < a + n → g k ≡ 0)
    → sum_by g (range_with_len a n) ≡ 0
sum_none g a zero h = refl
sum_none g a (suc n) h =
    let here = h a (omega arith) (omega arith) in
    let rest = sum_none g (a + 1) n (λ k le lt. h k (omega (arith, le)) (omega (arith, lt))) in
    omega (arith, sum_by-cons g a (range_with_len (a + 1) n), here, rest)

pub sum_same : (f g : ℕ → ℕ) (a n : ℕ) → ((k : ℕ) → a ≤ k → k < a + n → f k ≡ g k)
    → sum_by f (range_with_len a n) ≡ sum_by g (range_with_len a n)
sum_same f g a zero h = refl
sum_same f g a (suc n) h =
    let here = h a (omega arith) (omega arith) in
    let more = sum_same f g (a + 1) n (λ k le lt. h k (omega (arith, le)) (omega (arith, lt))) in
    omega (
      arith,
      sum_by-cons f a (range_with_len (a + 1) n),
      sum_by-cons g a (range_with_len (a + 1) n),
      here,
      more,
    )
