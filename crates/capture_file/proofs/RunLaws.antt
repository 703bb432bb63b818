-- In rising records those at the least number stand in front.
use Rattle.std.proofs.Common.{◌≡◌, ℕ, zero, suc, ◌+◌, ◌<◌, ◌≤◌, Bool, true, false, cond, eqb, List}
use Rattle.std.proofs.Common.{[], ◌∷◌, ◌++◌, length, take, drop, refl, sym, ap, subst, ◌∙◌}
use Rattle.std.proofs.Common.{append_assoc, arith}
use Rattle.std.specs.List.{AllByRecursion, filter, flat_map, range_with_len}
use Rattle.std.proofs.lemmas.List.{take-append-drop}
use Rattle.std.proofs.lemmas.List.Concat.{flat_map-cons}
use Rattle.std.proofs.lemmas.Bool.{eqb-true, eqb-false}
use Rattle.capture_file.specs.Runs.{IsFromOn, IsRisingFrom, run_len}

pub rising_less : {T : Type 0} (at : T → ℕ) (m n : ℕ) (rs : List T) → m ≤ n → IsRisingFrom at n rs
    → IsRisingFrom at m rs
rising_less at m n [] le h = tt
rising_less at m n (r ∷ rs) le h = (omega (arith, le, h.0), h.1)

not_at : (n m : ℕ) → n < m → eqb m n ≡ false
not_at n m lt = grind (arith, eqb-true)

-- above the number none stands at it, and all are kept
none_at : {T : Type 0} (at : T → ℕ) (n m : ℕ) (rs : List T) → n < m → IsRisingFrom at m rs
    → filter (λ r. eqb (at r) n) rs ≡ []
none_at at n m [] lt h = refl
none_at at n m (r ∷ rs) lt h =
    rw (not_at n (at r) (omega (arith, lt, h.0)))
    (none_at at n (at r) rs (omega (arith, lt, h.0)) h.1)

short_case : (b : Bool) (k n : ℕ) → k ≤ n → cond b (suc k) 0 ≤ suc n
short_case true k n le = omega (arith, le)
short_case false k n le = omega arith

run_case : {T : Type 0} (at : T → ℕ) (n : ℕ) (r : T) (rs : List T) (b : Bool) → eqb (at r) n ≡ b
    → IsRisingFrom at n (r ∷ rs)
    → (at r ≡ n → take (run_len at n rs) rs ≡ filter (λ r. eqb (at r) n) rs)
    → take (run_len at n (r ∷ rs)) (r ∷ rs) ≡ filter (λ r. eqb (at r) n) (r ∷ rs)
run_case {T} at n r rs true e h others =
    rw e (ap (λ (z : List T). r ∷ z) (others (eqb-true (at r) n e)))
run_case at n r rs false e h others = let other = eqb-false (at r) n e in
    rw e (sym (none_at at n (at r) rs (omega (arith, other, h.0)) h.1))

rising_case : {T : Type 0} (at : T → ℕ) (n : ℕ) (r : T) (rs : List T) (b : Bool) → eqb (at r) n ≡ b
    → IsRisingFrom at n (r ∷ rs) → (at r ≡ n → IsRisingFrom at (n + 1) (drop (run_len at n rs) rs))
    → IsRisingFrom at (n + 1) (drop (run_len at n (r ∷ rs)) (r ∷ rs))
rising_case at n r rs true e h others = rw e (others (eqb-true (at r) n e))
rising_case at n r rs false e h others = let other = eqb-false (at r) n e in
    rw e (omega (arith, other, h.0), h.1)

pub rising_run : {T : Type 0} (at : T → ℕ) (n : ℕ) (rs : List T) → IsRisingFrom at n rs
    → IsRisingFrom at (n + 1) (drop (run_len at n rs) rs)
rising_run at n [] h = tt
rising_run at n (r ∷ rs) h =
    rising_case at n r rs (eqb (at r) n) refl h
    (λ same. rising_run at n rs (rising_less at n (at r) rs h.0 h.1))

pub run_short : {T : Type 0} (at : T → ℕ) (n : ℕ) (rs : List T) → run_len at n rs ≤ length rs
run_short at n [] = omega arith
run_short at n (r ∷ rs) =
    short_case (eqb (at r) n) (run_len at n rs) (length rs) (run_short at n rs)

pub front_run : {T : Type 0} (at : T → ℕ) (n : ℕ) (rs : List T) → IsRisingFrom at n rs
    → take (run_len at n rs) rs ≡ filter (λ r. eqb (at r) n) rs
front_run at n [] h = refl
front_run at n (r ∷ rs) h =
    run_case at n r rs (eqb (at r) n) refl h
    (λ same. front_run at n rs (rising_less at n (at r) rs h.0 h.1))

-- ---- the items from a number on

filtered_below : {T : Type 0} (at : T → ℕ) (n : ℕ) (r : T) (others : List T) (b : Bool)
    → eqb (at r) n ≡ b → AllByRecursion (λ x. at x < n + 1) others
    → AllByRecursion (λ x. at x < n + 1) (cond b (r ∷ others) others)
filtered_below at n r others true e h = (let same = eqb-true (at r) n e in omega (arith, same), h)
filtered_below at n r others false e h = h

same_below : {T : Type 0} (at : T → ℕ) (n : ℕ) (rs : List T)
    → AllByRecursion (λ x. at x < n + 1) (filter (λ r. eqb (at r) n) rs)
same_below at n [] = tt
same_below at n (r ∷ rs) =
    filtered_below at n r (filter (λ r. eqb (at r) n) rs) (eqb (at r) n) refl (same_below at n rs)

pub run_from_on : {T : Type 0} (at : T → ℕ) (n : ℕ) (rs : List T) → IsRisingFrom at n rs
    → IsFromOn at (n + 1) rs (drop (run_len at n rs) rs)
run_from_on {T} at n rs h = record {
  before = take (run_len at n rs) rs;
  parts = sym (take-append-drop (run_len at n rs) rs);
  below = subst (λ (z : List T). AllByRecursion (λ x. at x < n + 1) z) (sym (front_run at n rs h))
      (same_below at n rs);
  rising = rising_run at n rs h;
}

pub all_from_on : {T : Type 0} (at : T → ℕ) (n : ℕ) (rs : List T) → IsRisingFrom at n rs
    → IsFromOn at n rs rs
all_from_on at n rs h = record { before = []; parts = refl; below = tt; rising = h }

both_below : {T : Type 0} (at : T → ℕ) (n : ℕ) (xs ys : List T) → AllByRecursion (λ x. at x < n) xs
    → AllByRecursion (λ x. at x < n + 1) ys → AllByRecursion (λ x. at x < n + 1) (xs ++ ys)
both_below at n [] ys h k = k
both_below at n (x ∷ xs) ys h k = (omega (arith, h.0), both_below at n xs ys h.1 k)

pub from_on_next : {T : Type 0} (at : T → ℕ) (n : ℕ) (all rest behind : List T)
    → IsFromOn at n all rest → IsFromOn at (n + 1) rest behind → IsFromOn at (n + 1) all behind
from_on_next {T} at n all rest behind h k = record {
  before = h.before ++ k.before;
  parts = h.parts ∙ ap (λ (z : List T). h.before ++ z) k.parts
      ∙ sym (append_assoc h.before k.before behind);
  below = both_below at n h.before k.before h.below k.below;
  rising = k.rising;
}

none_below : {T : Type 0} (at : T → ℕ) (n : ℕ) (xs rest : List T)
    → AllByRecursion (λ x. at x < n) xs
    → filter (λ r. eqb (at r) n) (xs ++ rest) ≡ filter (λ r. eqb (at r) n) rest
none_below at n [] rest h = refl
none_below at n (x ∷ xs) rest h = let other : eqb (at x) n ≡ false =
    grind (arith, eqb-true, h.0) in rw other (none_below at n xs rest h.1)

-- those of the number are among them
pub from_on_same : {T : Type 0} (at : T → ℕ) (n : ℕ) (all rest : List T) → IsFromOn at n all rest
    → filter (λ r. eqb (at r) n) all ≡ filter (λ r. eqb (at r) n) rest
from_on_same {T} at n all rest h =
    ap (λ (z : List T). filter (λ r. eqb (at r) n) z) h.parts
    ∙ none_below at n h.before rest h.below

behind_all : {T : Type 0} (P : T → Type 0) (xs ys : List T) → AllByRecursion P (xs ++ ys)
    → AllByRecursion P ys
behind_all P [] ys h = h
behind_all P (x ∷ xs) ys h = behind_all P xs ys h.1

-- what is true of all is true of them
pub from_on_fits : {T : Type 0} (at : T → ℕ) (n : ℕ) (P : T → Type 0) (all rest : List T)
    → IsFromOn at n all rest → AllByRecursion P all → AllByRecursion P rest
from_on_fits {T} at n P all rest h fits =
    behind_all P h.before rest (subst (λ (z : List T). AllByRecursion P z) h.parts fits)

filtered_fits : {T : Type 0} (P : T → Type 0) (r : T) (others : List T) (b : Bool) → P r
    → AllByRecursion P others → AllByRecursion P (cond b (r ∷ others) others)
filtered_fits P r others true p h = (p, h)
filtered_fits P r others false p h = h

pub run_fits : {T : Type 0} (test : T → Bool) (P : T → Type 0) (rs : List T) → AllByRecursion P rs
    → AllByRecursion P (filter test rs)
run_fits test P [] h = tt
run_fits test P (r ∷ rs) h =
    filtered_fits P r (filter test rs) (test r) h.0 (run_fits test P rs h.1)

none_left : {T : Type 0} (at : T → ℕ) (m : ℕ) (rest : List T) → IsRisingFrom at m rest
    → AllByRecursion (λ x. at x < m + 0) rest → rest ≡ []
none_left at m [] h k = refl
none_left at m (r ∷ rest) h k = absurd (omega (arith, h.0, k.0))

-- each number's items, one number after the other, are all from the first number on
pub shown : {T : Type 0} (at : T → ℕ) (n m : ℕ) (all rest : List T) → IsFromOn at m all rest
    → AllByRecursion (λ x. at x < m + n) rest
    → flat_map (λ k. filter (λ r. eqb (at r) k) all) (range_with_len m n) ≡ rest
shown at zero m all rest h within = sym (none_left at m rest h.rising within)
shown {T} at (suc n) m all rest h within =
    let of = λ (k : ℕ). filter (λ (r : T). eqb (at r) k) all in
    let behind = drop (run_len at m rest) rest in
    let next = run_from_on at m rest h.rising in
    let fits = from_on_fits at (m + 1) (λ (x : T). at x < m + suc n) rest behind next within in
    let place : m + suc n ≡ m + 1 + n = omega arith in
    let others = shown at n (m + 1) all behind (from_on_next at m all rest behind h next)
    (subst (λ (k : ℕ). AllByRecursion (λ (x : T). at x < k) behind) place fits) in
    flat_map-cons of m (range_with_len (m + 1) n)
    ∙ ap (λ (z : List T). z ++ flat_map of (range_with_len (m + 1) n)) (from_on_same at m all rest h
    ∙ sym (front_run at m rest h.rising))
    ∙ ap (λ (z : List T). take (run_len at m rest) rest ++ z) others
    ∙ take-append-drop (run_len at m rest) rest

-- what splitting a run needs
pub ruleset runs = (front_run, run_from_on, run_short)
