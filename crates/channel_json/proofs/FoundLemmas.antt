-- What is found at ascending numbers ascends.
use Rattle.std.proofs.Common.{◌≡◌, ℕ, zero, suc, ◌+◌, ◌-◌, ◌<◌, List, [], ◌∷◌, ◌++◌, length, Option}
use Rattle.std.proofs.Common.{Some, None, refl, subst, ap, ◌∙◌, add-one, arith}
use Rattle.std.specs.Prelude.{All, IfSome, slice_get}
use Rattle.std.specs.Option.{option_to_list}
use Rattle.std.proofs.lemmas.List.{append-nil}
use Rattle.std.proofs.lemmas.List.Elements.{All-nil, All-push, All-weaker, All-get_or}
use Rattle.std.proofs.lemmas.Option.{slice_get_within, get_or_from_slice_get}
use Rattle.map_entry.specs.Action.{AreAscending}
use Rattle.map_entry.proofs.Ascending.{AreAscending-push}
use Rattle.channel_json.specs.Fields.{found_below}

module _ {A : Type 0} (found : ℕ → Option A) where
  pub found_none : found_below found 0 ≡ []
  unfolding found_below
  found_none = refl

  pub found_more : (n : ℕ)
      → found_below found (n + 1) ≡ found_below found n ++ option_to_list (found n)
  unfolding found_below
  found_more n = ap (found_below found) (add-one n)

  -- one more, and none
  pub found_some : (n : ℕ) (x : A) → found n ≡ Some x
      → found_below found (n + 1) ≡ found_below found n ++ x ∷ []
  found_some n x e = found_more n ∙ ap (λ (o : Option A). found_below found n ++ option_to_list o) e

  pub found_same : (n : ℕ) → found n ≡ None → found_below found (n + 1) ≡ found_below found n
  found_same n e =
      found_more n ∙ ap (λ (o : Option A). found_below found n ++ option_to_list o) e
      ∙ append-nil (found_below found n)

pub at_some : {A : Type 0} (P : A → Type 0) (xs : List A) (k : ℕ) (o : Option A)
    → slice_get xs k ≡ o → All P xs → IfSome o P
at_some P xs k None e h = tt
at_some P xs k (Some x) e h =
    subst P (get_or_from_slice_get xs k x x e) (All-get_or P xs k x (slice_get_within xs k x e) h)

module _ {A : Type 0} (number : A → ℕ) where
  below_at : (xs : List A) (n : ℕ) (o : Option A) → ((x : A) → o ≡ Some x → number x ≡ n)
      → All (λ x. number x < n) xs
      → All (λ x. number x < suc n) (xs ++ option_to_list o)
  below_at xs n None own h =
      rw (append-nil xs) (All-weaker (λ x. number x < n) (λ x. number x < suc n)
      (λ x lt. omega (arith, lt)) xs h)
  below_at xs n (Some x) own h =
      let at : number x ≡ n = own x refl in
      All-push (λ y. number y < suc n) xs x
      (All-weaker (λ y. number y < n) (λ y. number y < suc n) (λ y lt. omega (arith, lt)) xs h)
      (omega (arith, at))

  -- the number of what is found is where it was found
  pub found_lies_below : (found : ℕ → Option A) (n : ℕ)
      → ((k : ℕ) (x : A) → found k ≡ Some x → number x ≡ k)
      → All (λ x. number x < n) (found_below found n)
  unfolding found_below
  found_lies_below found zero own = All-nil (λ x. number x < 0)
  found_lies_below found (suc n) own =
      below_at (found_below found n) n (found n) (own n) (found_lies_below found n own)

  ascends_at : (xs : List A) (n : ℕ) (o : Option A) → ((x : A) → o ≡ Some x → number x ≡ n)
      → All (λ x. number x < n) xs
      → AreAscending number xs → AreAscending number (xs ++ option_to_list o)
  ascends_at xs n None own below h = rw (append-nil xs) h
  ascends_at xs n (Some x) own below h =
      let at : number x ≡ n = own x refl in
      AreAscending-push number xs x h
      (rw at (at_some (λ y. number y < n) xs (length xs - 1)
      (slice_get xs (length xs - 1)) refl below))

  pub found_ascends : (found : ℕ → Option A) (n : ℕ)
      → ((k : ℕ) (x : A) → found k ≡ Some x → number x ≡ k)
      → AreAscending number (found_below found n)
  unfolding found_below
  found_ascends found zero own = λ k d within. absurd (omega (arith, within))
  found_ascends found (suc n) own =
      ascends_at (found_below found n) n (found n) (own n) (found_lies_below found n own)
      (found_ascends found n own)
