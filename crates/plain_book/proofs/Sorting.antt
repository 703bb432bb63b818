-- What a stable sort by place and client leaves is the order of a history.
use Rattle.std.proofs.Common.{◌≡◌, ℕ, suc, ◌<◌, ◌≤◌, Bool, true, false, eqb, not, List, [], ◌∷◌}
use Rattle.std.proofs.Common.{◌++◌, length, get_or, inl, inr, refl, sym, ap, ◌∙◌, cond}
use Rattle.std.proofs.Common.{append_assoc, arith}
use Rattle.std.specs.Prelude.{◌&&◌, ◌||◌, filter, fold, nat_lt}
use Rattle.std.specs.List.{AllByRecursion}
use Rattle.std.specs.List.Sorted.{IsSortedBy, IsStableBy, ties}
use Rattle.std.specs.Cmp.{IsStrictWeakOrder, nat_cmp_total, on_total, then_total}
use Rattle.std.specs.Ordering.{is_lt, nat_cmp, ordering_then}
use Rattle.std.specs.declared.cmp.Ordering.TheVariants.{Less, Equal, Greater}
use Rattle.std.proofs.lemmas.Bool.{and_parts, cases_Bool, false≢true}
use Rattle.std.proofs.lemmas.List.{append-nil}
use Rattle.std.proofs.lemmas.List.Sums.{fold-append}
use Rattle.std.proofs.lemmas.List.Elements.{recursion_from_All}
use Rattle.std.proofs.lemmas.List.Sorted.{ranks_by, sorted_far}
use Rattle.book_words.specs.declared.history.ReplyItem.{ReplyItem}
use Rattle.book_words.specs.History.{AreInOrder, IsNoLater, comes_before, in_order, put}

-- ---- lists in order by a test

-- none follows one that it is to stand before
abbrev AreSorted : {X : Type 0} → (X → X → Bool) → List X → Type 0
AreSorted lt [] = Unit {0}
AreSorted lt (x ∷ xs) = AllByRecursion (λ y. lt y x ≡ false) xs × AreSorted lt xs

not_true : (b : Bool) → not b ≡ true → b ≡ false
not_true true is = absurd cc
not_true false is = refl

one_first : {X : Type 0} (p : X → Bool) (x : X) (xs : List X)
    → filter p (x ∷ []) ++ filter p xs ≡ filter p (x ∷ xs)
one_first p x xs = elim (cases_Bool (p x)) [ inl hit ↦ rw hit refl | inr miss ↦ rw miss refl ]

not_own : {X : Type 0} (lt : X → X → Bool) → IsStrictWeakOrder lt → (x : X) → lt x x ≡ false
not_own lt o x = elim (cases_Bool (lt x x)) [ inl is ↦ o.one_way x x is | inr isnt ↦ isnt ]

own_tie : {X : Type 0} (lt : X → X → Bool) → IsStrictWeakOrder lt → (x : X) → ties lt x x ≡ true
own_tie lt o x = rw (not_own lt o x) refl

-- what comes before the first of a list ties with none of it
none_tie : {X : Type 0} (lt : X → X → Bool) → IsStrictWeakOrder lt → (x y : X) (ys : List X)
    → lt x y ≡ true → AllByRecursion (λ z. lt z y ≡ false) ys → filter (ties lt x) ys ≡ []
none_tie lt o x y [] before all = refl
none_tie lt o x y (z ∷ zs) before all =
    let ahead : lt x z ≡ true =
    elim (cases_Bool (lt x z)) [
      | inl is ↦ is
      | inr isnt ↦ absurd
          (false≢true (sym (o.chain x z y isnt all.0) ∙ before))
    ] in
    rw ahead (none_tie lt o x y zs before all.1)

none_before : {X : Type 0} (lt : X → X → Bool) → IsStrictWeakOrder lt → (x y : X) (xs ys : List X)
    → AllByRecursion (λ z. lt z y ≡ false) ys → lt x y ≡ true
    → filter (ties lt x) (x ∷ xs) ≡ filter (ties lt x) (y ∷ ys) → ⊥
none_before {X} lt o x y xs ys all before same =
    let none : filter (ties lt x) (y ∷ ys) ≡ [] =
    none_tie lt o x y (y ∷ ys) before (not_own lt o y, all) in
    let some : x ∷ filter (ties lt x) xs ≡ filter (ties lt x) (y ∷ ys) =
    rw (own_tie lt o x) at same in
    let both : x ∷ filter (ties lt x) xs ≡ [] = some ∙ none in
    absurd cc

same_head : {X : Type 0} (lt : X → X → Bool) → IsStrictWeakOrder lt → (x y : X) (xs ys : List X)
    → AllByRecursion (λ z. lt z x ≡ false) xs → AllByRecursion (λ z. lt z y ≡ false) ys
    → ((z : X) → filter (ties lt z) (x ∷ xs) ≡ filter (ties lt z) (y ∷ ys)) → x ≡ y
same_head {X} lt o x y xs ys a b same = elim (cases_Bool (lt x y)) [
  | inl first ↦ absurd (none_before lt o x y xs ys b first (same x))
  | inr le ↦ elim (cases_Bool (lt y x)) [
    | inl second ↦ absurd (none_before lt o y x ys xs a second (sym (same y)))
    | inr ge ↦
        let tie : ties lt x y ≡ true = rw (le, ge) refl in
        let both : x ∷ filter (ties lt x) xs ≡ y ∷ filter (ties lt x) ys =
        rw (own_tie lt o x, tie) at (same x) in
        cc
  ]
]

same_tail : {X : Type 0} (lt : X → X → Bool) (x : X) (xs ys : List X) (z : X)
    → filter (ties lt z) (x ∷ xs) ≡ filter (ties lt z) (x ∷ ys)
    → filter (ties lt z) xs ≡ filter (ties lt z) ys
same_tail {X} lt x xs ys z same = elim (cases_Bool (ties lt z x)) [
  | inl tie ↦ let both : x ∷ filter (ties lt z) xs ≡ x ∷ filter (ties lt z) ys =
      rw tie at same in cc
  | inr other ↦ rw other at same
]

-- lists in order that have the same of what ties, in the same order, are one
same_sorted : {X : Type 0} (lt : X → X → Bool) → IsStrictWeakOrder lt → (xs ys : List X)
    → AreSorted lt xs → AreSorted lt ys → ((z : X) → filter (ties lt z) xs ≡ filter (ties lt z) ys)
    → xs ≡ ys
same_sorted lt o [] [] a b same = refl
same_sorted lt o [] (y ∷ ys) a b same = let both : [] ≡ y ∷ filter (ties lt y) ys =
    rw (own_tie lt o y) at (same y) in absurd cc
same_sorted lt o (x ∷ xs) [] a b same = let both : x ∷ filter (ties lt x) xs ≡ [] =
    rw (own_tie lt o x) at (same x) in absurd cc
same_sorted {X} lt o (x ∷ xs) (y ∷ ys) a b same =
    let head : x ≡ y = same_head lt o x y xs ys a.0 b.0 same in
    let tail : xs ≡ ys =
    same_sorted lt o xs ys a.1 b.1 (λ z. same_tail lt x xs ys z (same z
    ∙ ap (λ (h : X). filter (ties lt z) (h ∷ ys)) (sym head))) in
    ap (λ (h : X). h ∷ xs) head ∙ ap (λ (zs : List X). y ∷ zs) tail

sorted_from : {X : Type 0} (lt : X → X → Bool) (xs : List X)
    → ((i j : ℕ) (d : X) → i ≤ j → j < length xs → lt (get_or xs j d) (get_or xs i d) ≡ false)
    → AreSorted lt xs
sorted_from lt [] far = tt
sorted_from {X} lt (x ∷ xs) far = (
  recursion_from_All (λ (y : X). lt y x ≡ false) xs
      (λ k d lt_k. far 0 (suc k) d (omega arith) (omega (arith, lt_k))),
  sorted_from lt xs (λ i j d le lt_j. far (suc i) (suc j) d (omega (arith, le))
      (omega (arith, lt_j))),
)

-- ---- the order of replies

-- the place of a reply, and its client
abbrev pub place : ReplyItem → ℕ × ℕ × ℕ
place r = (r.stamp.claims, r.stamp.calls, r.client)

-- whether a reply is to stand before another: by claims, calls and client
abbrev pub below : ReplyItem → ReplyItem → Bool
below a b = is_lt (ordering_then
    (ordering_then (nat_cmp a.stamp.claims b.stamp.claims) (nat_cmp a.stamp.calls b.stamp.calls))
    (nat_cmp a.client b.client))

chosen : (a b c d e f : Bool)
    → is_lt (ordering_then
    (ordering_then (cond a Less (cond b Equal Greater)) (cond c Less (cond d Equal Greater)))
    (cond e Less (cond f Equal Greater))) ≡ (a || (b && (c || (d && e))))
chosen true b c d e f = refl
chosen false false c d e f = refl
chosen false true true d e f = refl
chosen false true false false e f = refl
chosen false true false true true f = refl
chosen false true false true false true = refl
chosen false true false true false false = refl

below_is : (a b : ReplyItem) → below a b ≡ comes_before a b
below_is a b =
    chosen (nat_lt a.stamp.claims b.stamp.claims) (eqb a.stamp.claims b.stamp.claims)
    (nat_lt a.stamp.calls b.stamp.calls) (eqb a.stamp.calls b.stamp.calls)
    (nat_lt a.client b.client) (eqb a.client b.client)

below_order : IsStrictWeakOrder below
below_order =
    ranks_by (then_total
    (then_total (on_total (λ (r : ReplyItem). r.stamp.claims) nat_cmp_total)
    (on_total (λ (r : ReplyItem). r.stamp.calls) nat_cmp_total))
    (on_total (λ (r : ReplyItem). r.client) nat_cmp_total)) (λ (r : ReplyItem). r)

all_same : {X : Type 0} (P Q : X → Type 0) → ((x : X) → P x → Q x) → (xs : List X)
    → AllByRecursion P xs → AllByRecursion Q xs
all_same P Q f [] all = tt
all_same P Q f (x ∷ xs) all = (f x all.0, all_same P Q f xs all.1)

sorted_by : (xs : List ReplyItem) → AreInOrder xs → AreSorted below xs
sorted_by [] is = tt
sorted_by (x ∷ xs) is = (
  all_same (IsNoLater x) (λ (y : ReplyItem). below y x ≡ false) (λ y last. below_is y x
      ∙ last) xs is.0,
  sorted_by xs is.1,
)

-- ---- replies that are put in their places

put_all : (P : ReplyItem → Type 0) (xs : List ReplyItem) (r : ReplyItem) → AllByRecursion P xs → P r
    → AllByRecursion P (put xs r)
put_all P [] r all one = (one, tt)
put_all P (x ∷ xs) r all one = elim (cases_Bool (comes_before r x)) [
  | inl hit ↦ rw hit (one, all)
  | inr miss ↦ rw miss (all.0, put_all P xs r all.1 one)
]

-- what is not to stand before one is not to stand before what comes before that one
all_behind : (r x : ReplyItem) (ys : List ReplyItem) → below x r ≡ false
    → AllByRecursion (λ y. below y x ≡ false) ys → AllByRecursion (λ y. below y r ≡ false) ys
all_behind r x [] a all = tt
all_behind r x (y ∷ ys) a all = (below_order.chain y x r all.0 a, all_behind r x ys a all.1)

put_sorted : (xs : List ReplyItem) (r : ReplyItem) → AreSorted below xs
    → AreSorted below (put xs r)
put_sorted [] r is = (tt, tt)
put_sorted (x ∷ xs) r is = elim (cases_Bool (comes_before r x)) [
  | inl hit ↦
      let back : below x r ≡ false = below_order.one_way r x (below_is r x ∙ hit) in
      rw hit ((back, all_behind r x xs back is.0), is)
  | inr miss ↦
      rw miss (
        put_all (λ (y : ReplyItem). below y x ≡ false) xs r is.0 (below_is r x ∙ miss),
        put_sorted xs r is.1,
      )
]

-- what ties with one that comes before the first of a list comes before it too
before_too : (z r x : ReplyItem) → ties below z r ≡ true → below r x ≡ true → below z x ≡ true
before_too z r x tie before =
    let parts = and_parts (not (below z r)) (not (below r z)) tie in
    elim (cases_Bool (below z x)) [
      | inl hit ↦ hit
      | inr miss ↦ absurd (false≢true
          (sym (below_order.chain r z x (not_true (below r z) parts.1) miss) ∙ before))
    ]

-- a reply is put after all with which it ties
put_ties : (z : ReplyItem) (xs : List ReplyItem) (r : ReplyItem) → AreSorted below xs
    → filter (ties below z) (put xs r)
    ≡ filter (ties below z) xs ++ filter (ties below z) (r ∷ [])
put_ties z [] r is = refl
put_ties z (x ∷ xs) r is = elim (cases_Bool (comes_before r x)) [
  | inl hit ↦ elim (cases_Bool (ties below z r)) [
    | inl tie ↦
        let before : below z x ≡ true = before_too z r x tie (below_is r x ∙ hit) in
        let none : filter (ties below z) (x ∷ xs) ≡ [] =
        none_tie below below_order z x (x ∷ xs) before (not_own below below_order x, is.0) in
        rw (hit, tie)
        (ap (λ (ys : List ReplyItem). r ∷ ys) none
        ∙ sym (ap (λ (ys : List ReplyItem). ys ++ r ∷ []) none))
    | inr other ↦ rw (hit, other) (sym (append-nil (filter (ties below z) (x ∷ xs))))
  ]
  | inr miss ↦ elim (cases_Bool (ties below z x)) [
    | inl tie ↦ rw (miss, tie)
        (ap (λ (ys : List ReplyItem). x ∷ ys) (put_ties z xs r is.1))
    | inr other ↦ rw (miss, other) (put_ties z xs r is.1)
  ]
]

-- replies that are put one after the other among sorted ones
record IsPut (start xs made : List ReplyItem) : Type 0 where
  sorted : AreSorted below made
  alike : (z : ReplyItem)
      → filter (ties below z) made ≡ filter (ties below z) start ++ filter (ties below z) xs

put_from : (start xs : List ReplyItem) → AreSorted below start → IsPut start xs (fold put start xs)
put_from start [] is =
    record { sorted = is; alike = λ z. sym (append-nil (filter (ties below z) start)) }
put_from start (x ∷ xs) is =
    let rest = put_from (put start x) xs (put_sorted start x is) in
    record {
      sorted = rest.sorted;
      alike = λ z.
          let own = filter (ties below z) in
          rest.alike z ∙ ap (λ (ys : List ReplyItem). ys ++ own xs) (put_ties z start x is)
          ∙ append_assoc (own start) (own (x ∷ [])) (own xs)
          ∙ ap (λ (ys : List ReplyItem). own start ++ ys) (one_first (ties below z) x xs);
    }

-- THE LAW: a stable sort leaves what putting one after the other leaves
pub sorted_in_order : (given made : List ReplyItem) → IsSortedBy below made
    → IsStableBy below given made → made ≡ in_order given
sorted_in_order given made sorted stable =
    let order = put_from [] given tt in
    same_sorted below below_order made (in_order given)
    (sorted_from below made (sorted_far below below_order made sorted)) order.sorted
    (λ z. stable z ∙ sym (order.alike z))

-- what stands in order stays as it is
order_stays : (xs : List ReplyItem) → AreInOrder xs → in_order xs ≡ xs
order_stays xs is =
    let order = put_from [] xs tt in
    same_sorted below below_order (in_order xs) xs order.sorted (sorted_by xs is)
    (λ z. order.alike z)

-- all in order are the later ones put among the earlier ones, where these stand in order
pub merged : (xs ys : List ReplyItem) → AreInOrder xs → in_order (xs ++ ys) ≡ fold put xs ys
merged xs ys is =
    fold-append put [] xs ys
    ∙ ap (λ (start : List ReplyItem). fold put start ys) (order_stays xs is)
