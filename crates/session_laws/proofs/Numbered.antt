-- Claims by their numbers: where each number of a range stands once and the numbers never fall,
-- they are the numbers of the range.
use Rattle.std.proofs.Common.{◌≡◌, ℕ, zero, suc, ◌+◌, ◌<◌, ◌≤◌, ◌⊎◌, Bool, true, false, eqb, List}
use Rattle.std.proofs.Common.{[], ◌∷◌, ◌++◌, length, Some, inl, inr, refl, sym, ap, subst, ◌∙◌}
use Rattle.std.proofs.Common.{arith}
use Rattle.std.specs.Prelude.{cond, count_by, filter, slice_get, IsPermutation}
use Rattle.std.specs.List.{AllByRecursion, AllZip}
use Rattle.std.specs.List.Sorted.{IsNonDecreasingBy}
use Rattle.std.proofs.lemmas.Bool.{cases_Bool, cases_lt, eq-eqb, ne_eqb, false≢true}
use Rattle.std.proofs.lemmas.Bool.{false_from_ne_true}
use Rattle.std.proofs.lemmas.List.Elements.{recursion_from_All}
use Rattle.std.proofs.lemmas.List.Sums.{sum_by-append}
use Rattle.std.proofs.lemmas.List.Sorted.{sum_by-IsPermutation}
use Rattle.list_laws.proofs.Items.{count_by-append}
use Rattle.book_words.specs.declared.history.ClaimItem.{ClaimItem}

-- ---- counts

pub count_cons : {X : Type 0} (p : X → Bool) (x : X) (xs : List X)
    → count_by p (x ∷ xs) ≡ cond {A = ℕ} (p x) 1 0 + count_by p xs
count_cons {X} p x xs = omega (arith, sum_by-append (λ (y : X). cond {A = ℕ} (p y) 1 0) (x ∷ []) xs)

pub hit : (b : Bool) → b ≡ true → cond {A = ℕ} b 1 0 ≡ 1
hit b h = rw h refl

pub miss : (b : Bool) → b ≡ false → cond {A = ℕ} b 1 0 ≡ 0
miss b h = rw h refl

none_counted : {X : Type 0} (p : X → Bool) (xs : List X) → AllByRecursion (λ x. p x ≡ false) xs
    → count_by p xs ≡ 0
none_counted p [] all = refl
none_counted p (x ∷ xs) all =
    omega (arith, count_cons p x xs, miss (p x) all.0, none_counted p xs all.1)

-- what is counted of those that pass
pub count_passed : {X : Type 0} (p q r : X → Bool) (xs : List X) → ((x : X) → p x ≡ r x)
    → ((x : X) → r x ≡ true → q x ≡ true) → count_by p (filter q xs) ≡ count_by r xs
count_passed p q r [] same pass = refl
count_passed {X} p q r (x ∷ xs) same pass = elim (cases_Bool (q x)) [
  | inl yes_it ↦
      rw yes_it (omega (
        arith,
        count_cons p x (filter q xs),
        count_cons r x xs,
        count_passed p q r xs same pass,
        ap (λ (b : Bool). cond {A = ℕ} b 1 0) (same x),
      ))
  | inr no_it ↦
      let out : r x ≡ false = false_from_ne_true (r x) (λ h. false≢true (sym no_it ∙ pass x h)) in
      rw no_it (omega (arith, count_cons r x xs, count_passed p q r xs same pass, miss (r x) out))
]

pub none_passed : {X : Type 0} (p q : X → Bool) (xs : List X) → ((x : X) → q x ≡ true → p x ≡ false)
    → count_by p (filter q xs) ≡ 0
none_passed p q [] out = refl
none_passed {X} p q (x ∷ xs) out = elim (cases_Bool (q x)) [
  | inl yes_it ↦
      rw yes_it (omega
      (arith, count_cons p x (filter q xs), none_passed p q xs out, miss (p x) (out x yes_it)))
  | inr no_it ↦ rw no_it (none_passed p q xs out)
]

-- alike in pairs, alike in numbers
pub count_zip : {X Y : Type 0} (R : X → Y → Type 0) (p : X → Bool) (q : Y → Bool) (xs : List X)
    (ys : List Y) → AllZip R xs ys → ((x : X) (y : Y) → R x y → q y ≡ p x)
    → count_by q ys ≡ count_by p xs
count_zip R p q [] [] all same = refl
count_zip R p q [] (y ∷ ys) all same = absurd all
count_zip R p q (x ∷ xs) [] all same = absurd all
count_zip R p q (x ∷ xs) (y ∷ ys) all same =
    omega (
      arith,
      count_cons p x xs,
      count_cons q y ys,
      ap (λ (b : Bool). cond {A = ℕ} b 1 0) (same x y all.0),
      count_zip R p q xs ys all.1 same,
    )

-- ---- numbers

abbrev pub has_number : ℕ → ClaimItem → Bool
has_number k c = eqb c.k k

-- each number from one on below another stands once, and no other
pub record AreCounted (low high : ℕ) (items : List ClaimItem) : Type 0 where
  pub one : (k : ℕ) → low ≤ k → k < high → count_by (has_number k) items ≡ 1
  pub none : (k : ℕ) → (k < low) ⊎ (high ≤ k) → count_by (has_number k) items ≡ 0

pub counted_shuffled : (low high : ℕ) (xs ys : List ClaimItem) → IsPermutation xs ys
    → AreCounted low high xs → AreCounted low high ys
counted_shuffled low high xs ys moved is = record {
  one = λ k from to. sum_by-IsPermutation (λ (c : ClaimItem). cond {A = ℕ} (has_number k c) 1 0) xs
      ys moved ∙ is.one k from to;
  none = λ k out. sum_by-IsPermutation (λ (c : ClaimItem). cond {A = ℕ} (has_number k c) 1 0) xs ys
      moved ∙ is.none k out;
}

-- one range after another
pub counted_then : (low mid high : ℕ) (xs ys : List ClaimItem) → low ≤ mid → mid ≤ high
    → AreCounted low mid xs → AreCounted mid high ys → AreCounted low high (xs ++ ys)
counted_then low mid high xs ys up more first second = record {
  one = λ k from to. elim (cases_lt k mid) [
    | inl here ↦
        omega (
          arith,
          count_by-append (has_number k) xs ys,
          first.one k from here,
          second.none k (inl here),
        )
    | inr there ↦
        omega (
          arith,
          count_by-append (has_number k) xs ys,
          first.none k (inr there),
          second.one k there to,
        )
  ];
  none = λ k out. elim out [
    | inl below ↦
        omega (
          arith,
          count_by-append (has_number k) xs ys,
          first.none k (inl below),
          second.none k (inl (omega (arith, below, up))),
        )
    | inr above ↦
        omega (
          arith,
          count_by-append (has_number k) xs ys,
          first.none k (inr (omega (arith, above, more))),
          second.none k (inr above),
        )
  ];
}

-- the numbers are those from one on below another, in order
abbrev pub AreNumbered : ℕ → ℕ → List ClaimItem → Type 0
AreNumbered low high [] = low ≡ high
AreNumbered low high (x ∷ xs) = (x.k ≡ low) × AreNumbered (low + 1) high xs

pub numbered_long : (low high : ℕ) (xs : List ClaimItem) → AreNumbered low high xs
    → low + length xs ≡ high
numbered_long low high [] are = omega (arith, are)
numbered_long low high (x ∷ xs) are = let w = numbered_long (low + 1) high xs are.1 in
    omega (arith, w)

pub numbered_at : (low high : ℕ) (xs : List ClaimItem) (j : ℕ) (c : ClaimItem)
    → AreNumbered low high xs → slice_get xs j ≡ Some c → c.k ≡ low + j
numbered_at low high [] j c are e = absurd cc
numbered_at low high (x ∷ xs) zero c are e = let same : x ≡ c = cc in
    sym (ap (λ (d : ClaimItem). d.k) same) ∙ omega (arith, are.0)
numbered_at low high (x ∷ xs) (suc j) c are e = let w = numbered_at (low + 1) high xs j c are.1 e in
    omega (arith, w)

pub numbered_then : (low mid high : ℕ) (xs ys : List ClaimItem) → AreNumbered low mid xs
    → AreNumbered mid high ys → AreNumbered low high (xs ++ ys)
numbered_then low mid high [] ys first second =
    subst (λ (n : ℕ). AreNumbered n high ys) (sym first) second
numbered_then low mid high (x ∷ xs) ys first second =
    (first.0, numbered_then (low + 1) mid high xs ys first.1 second)

abbrev IsUp : List ClaimItem → Type 0
IsUp [] = Unit {0}
IsUp (x ∷ xs) = AllByRecursion (λ y. x.k ≤ y.k) xs × IsUp xs

up_from : (xs : List ClaimItem) → IsNonDecreasingBy (λ c. c.k) xs → IsUp xs
up_from [] rises = tt
up_from (x ∷ xs) rises = (
  recursion_from_All (λ (y : ClaimItem). x.k ≤ y.k) xs
      (λ j d lt. rises 0 (suc j) d (omega arith) (omega (arith, lt))),
  up_from xs (λ i j d le lt. rises (suc i) (suc j) d (omega (arith, le)) (omega (arith, lt))),
)

apart_all : (k low : ℕ) (xs : List ClaimItem) → k < low → AllByRecursion (λ y. low ≤ y.k) xs
    → AllByRecursion (λ y. has_number k y ≡ false) xs
apart_all k low [] lt all = tt
apart_all k low (x ∷ xs) lt all =
    (ne_eqb x.k k (λ same. omega (arith, same, all.0, lt)), apart_all k low xs lt all.1)

-- without the first
rest_counted : (x : ClaimItem) (xs : List ClaimItem) (low high : ℕ) → x.k ≡ low → low < high
    → AreCounted low high (x ∷ xs) → AreCounted (low + 1) high xs
rest_counted x xs low high first some is = record {
  one = λ k above below.
      omega (
        arith,
        is.one k (omega (arith, above)) below,
        count_cons (has_number k) x xs,
        miss (has_number k x) (ne_eqb x.k k (λ same. omega (arith, same, first, above))),
      );
  none = λ k out. elim out [
    | inr above ↦ omega (arith, is.none k (inr above), count_cons (has_number k) x xs)
    | inl below ↦ elim (cases_lt k low) [
      | inl far ↦ omega (arith, is.none k (inl far), count_cons (has_number k) x xs)
      | inr near ↦
          let same : x.k ≡ k = omega (arith, near, below, first) in
          omega (
            arith,
            is.one k near (omega (arith, same, first, some)),
            count_cons (has_number k) x xs,
            hit (has_number k x) (eq-eqb x.k k same),
          )
    ]
  ];
}

numbered_up : (xs : List ClaimItem) (low high : ℕ) → low ≤ high → IsUp xs → AreCounted low high xs
    → AreNumbered low high xs
numbered_up [] low high le up is = elim (cases_lt low high) [
  | inl some ↦ absurd (omega (arith, is.one low (omega arith) some))
  | inr empty ↦ omega (arith, empty, le)
]
numbered_up (x ∷ xs) low high le up is =
    let own : cond {A = ℕ} (has_number x.k x) 1 0 ≡ 1 =
    hit (has_number x.k x) (eq-eqb x.k x.k refl) in
    let from : low ≤ x.k =
    elim (cases_lt x.k low) [
      | inl below ↦
          absurd (omega (arith, is.none x.k (inl below), count_cons (has_number x.k) x xs, own))
      | inr here ↦ here
    ] in
    let to : x.k < high =
    elim (cases_lt x.k high) [
      | inl here ↦ here
      | inr above ↦
          absurd (omega (arith, is.none x.k (inr above), count_cons (has_number x.k) x xs, own))
    ] in
    let first : x.k ≡ low = elim (cases_lt low x.k) [
      | inr here ↦ omega (arith, here, from)
      | inl less ↦
          absurd (omega (
            arith,
            is.one low (omega arith) (omega (arith, less, to)),
            none_counted (has_number low) (x ∷ xs)
                (apart_all low x.k (x ∷ xs) less (omega arith, up.0)),
          ))
    ] in (
      first,
      numbered_up xs (low + 1) high (omega (arith, first, to)) up.1
          (rest_counted x xs low high first (omega (arith, first, to)) is),
    )

pub numbered : (xs : List ClaimItem) (low high : ℕ) → low ≤ high → IsNonDecreasingBy (λ c. c.k) xs
    → AreCounted low high xs → AreNumbered low high xs
numbered xs low high le rises is = numbered_up xs low high le (up_from xs rises) is
