-- Lists whose numbers ascend.
use Rattle.std.proofs.Common.{◌≡◌, ℕ, ◌+◌, ◌-◌, ◌<◌, List, [], ◌∷◌, ◌++◌, Some, inl, inr, length, get_or, arith, length-append}
use Rattle.std.specs.Prelude.{IfSome, slice_get}
use Rattle.std.proofs.lemmas.Bool.{cases_lt}
use Rattle.std.proofs.lemmas.List.{get_or_append_left}
use Rattle.std.proofs.lemmas.List.Elements.{All-push}
use Rattle.std.proofs.lemmas.Option.{slice_get-get_or}
use Rattle.std.proofs.Math.Seq.{get_or-append_seam}
use Rattle.map_entry.specs.Action.{OutputChangeParts, AreAscending, IsOutputChange, IsAction}

-- a greater number at the end
pub AreAscending-push : {X : Type 0} (n : X → ℕ) (xs : List X) (y : X) → AreAscending n xs
    → IfSome (slice_get xs (length xs - 1)) (λ last. n last < n y) → AreAscending n (xs ++ y ∷ [])
AreAscending-push n xs y up below k d within = elim (cases_lt (k + 1) (length xs)) [
  | inl inside ↦ rw (get_or_append_left xs (y ∷ []) d k (omega arith), get_or_append_left xs (y ∷ []) d (k + 1) inside) (up k d inside)
  | inr seam ↦
      let long : length (xs ++ y ∷ []) ≡ length xs + 1 = length-append xs (y ∷ []) in
      let at : k + 1 ≡ length xs = omega (arith, long) in
      let place : length xs - 1 ≡ k = omega arith in
      let read : slice_get xs (length xs - 1) ≡ Some (get_or xs k d) = rw place (slice_get-get_or xs k d (omega arith)) in
      let less : n (get_or xs k d) < n y = rw read at below in
      rw (get_or_append_left xs (y ∷ []) d k (omega arith), at, get_or-append_seam xs y [] d) less
]

-- a change of an output after the last one
pub IsAction-push : (action : List OutputChangeParts) (change : OutputChangeParts) → IsAction action → IsOutputChange change
    → IfSome (slice_get action (length action - 1)) (λ last. last.output < change.output) → IsAction (action ++ change ∷ [])
IsAction-push action change is one below = record {
  outputs = AreAscending-push (λ (c : OutputChangeParts). c.output) action change is.outputs below;
  changes = All-push IsOutputChange action change is.changes one;
}
