-- Lists of which no two items have the same id.
use Rattle.std.proofs.Common.{◌≡◌, ◌≢◌, ℕ, ◌+◌, ◌<◌, List, length, get_or, take, ap, sym, ◌∙◌, arith}
use Rattle.std.specs.List.{AllPairs, Any}
use Rattle.std.proofs.lemmas.List.{take_more, get_or-take, get_or_default, length-take-le}
use Rattle.std.proofs.lemmas.List.Quantifiers.{all_pairs_push}

-- one more item, unlike those before it
pub distinct_more : {X : Type 0} (f : X → List ℕ) (xs : List X) (i : ℕ) (x : X) → i < length xs → x ≡ get_or xs i x
    → AllPairs (λ p q. f p ≢ f q) (take i xs) → (Any (λ p. f p ≡ f x) (take i xs) → ⊥) → AllPairs (λ p q. f p ≢ f q) (take (i + 1) xs)
distinct_more {X} f xs i x within is pairs fresh =
    rw (take_more xs i x within)
    (all_pairs_push (λ p q. f p ≢ f q) (take i xs) (get_or xs i x) pairs
    (λ (k : ℕ) (d : X) (below : k < length (take i xs)) same. fresh (
      k,
      get_or (take i xs) k d,
      below,
      get_or_default (take i xs) k _ d below,
      same
          ∙ ap f (sym is),
    )))

-- an item like an earlier one
pub not_distinct : {X : Type 0} (f : X → List ℕ) (xs : List X) (i : ℕ) (x : X) → i < length xs → x ≡ get_or xs i x
    → Any (λ p. f p ≡ f x) (take i xs) → AllPairs (λ p q. f p ≢ f q) xs → ⊥
not_distinct f xs i x within is (k, y, below, at, same) pairs =
    let early : k < i = omega (arith, length-take-le i xs (omega arith)) in
    let read : get_or xs k x ≡ y = get_or_default xs k x y (omega arith) ∙ (sym (get_or-take i xs k y early) ∙ at) in
    pairs k i x early within (ap f read ∙ (same ∙ ap f is))
