-- Feeders' passes are given once.
use Rattle.std.proofs.Common.{◌≡◌, ℕ, zero, suc, ◌<◌, ◌↔◌, List, [], ◌∷◌, length, map, get_or, set}
use Rattle.std.proofs.Common.{refl, sym, ap, ◌∙◌, subst, arith, true, false, true≢false}
use Rattle.std.specs.Prelude.{Option, Some, None, Result, Ok, Err, IfOk, IsErr, OnOk, OnErr}
use Rattle.std.specs.Prelude.{is_none, slice_get}
use Rattle.std.specs.List.{AllZip}
use Rattle.input_cells.specs.Faces.{AreNumbered, InputFace, IsFeedOf, IsKept, IsUnfed, SeatFace}
use Rattle.input_cells.specs.Faces.{face_of, unfed}

pub as_kept : (table : List InputFace) (feeders : List (Option SeatFace))
    → AllZip IsKept table feeders → length feeders ≡ length table
as_kept [] [] h = refl
as_kept [] (f ∷ fs) h = absurd h
as_kept (t ∷ ts) [] h = absurd h
as_kept (t ∷ ts) (f ∷ fs) h = ap suc (as_kept ts fs h.1)

pub kept_at : (table : List InputFace) (feeders : List (Option SeatFace)) (i : ℕ) (d : InputFace)
    (e : Option SeatFace) → AllZip IsKept table feeders → i < length table
    → IsKept (get_or table i d) (get_or feeders i e)
kept_at [] [] i d e h lt = absurd (omega arith)
kept_at [] (f ∷ fs) i d e h lt = absurd h
kept_at (t ∷ ts) [] i d e h lt = absurd h
kept_at (t ∷ ts) (f ∷ fs) zero d e h lt = h.0
kept_at (t ∷ ts) (f ∷ fs) (suc i) d e h lt = kept_at ts fs i d e h.1 (omega arith)

pub kept_none : (table : List InputFace) (feeders : List (Option SeatFace)) (i : ℕ)
    → AllZip IsKept table feeders → AllZip IsKept table (set feeders i None)
kept_none [] [] i h = h
kept_none [] (f ∷ fs) i h = absurd h
kept_none (t ∷ ts) [] i h = absurd h
kept_none (t ∷ ts) (f ∷ fs) zero h = (tt, h.1)
kept_none (t ∷ ts) (f ∷ fs) (suc i) h = (h.0, kept_none ts fs i h.1)

given_at : (feeders : List (Option SeatFace)) (i : ℕ) (d : Option SeatFace) → i < length feeders
    → get_or (map is_none feeders) i false ≡ is_none (get_or feeders i d)
given_at [] i d lt = absurd (omega arith)
given_at (f ∷ fs) zero d lt = refl
given_at (f ∷ fs) (suc i) d lt = given_at fs i d (omega arith)

given_set : (feeders : List (Option SeatFace)) (i : ℕ)
    → map is_none (set feeders i None) ≡ set (map is_none feeders) i true
given_set [] i = refl
given_set (f ∷ fs) zero = refl
given_set (f ∷ fs) (suc i) = λ k. is_none f ∷ given_set fs i k

face_there : (table : List InputFace) (i : ℕ) (d : InputFace) → i < length table
    → slice_get table i ≡ Some (get_or table i d)
face_there [] i d lt = absurd (omega arith)
face_there (t ∷ ts) zero d lt = refl
face_there (t ∷ ts) (suc i) d lt = face_there ts i d (omega arith)

-- ---- as a call finds them: what was at the input's place, and what came of it

numbered : (t : InputFace) (p : SeatFace) → p ≡ unfed t → IsUnfed p
numbered t p is = is ∙ ap unfed (sym (ap face_of is))

module _ (table : List InputFace) (feeders : List (Option SeatFace)) (i : ℕ)
    (place : Option SeatFace) (h : AllZip IsKept table feeders) (lt : i < length table)
    (here : place ≡ get_or feeders i place) where
  kept : (d : InputFace) → IsKept (get_or table i d) place
  kept d = subst (IsKept (get_or table i d)) (sym here) (kept_at table feeders i d place h lt)

  found : (p : SeatFace) → place ≡ Some p → p ≡ unfed (get_or table i (face_of p))
  found p is = subst (IsKept (get_or table i (face_of p))) is (kept (face_of p))

  pub given_err : {E : Type 0} (r : Result SeatFace E) → IfOk r (λ p. place ≡ Some p)
      → OnErr r (place ≡ None) → IsErr r ↔ (get_or (map is_none feeders) i false ≡ true)
  given_err (Ok p) ok err = (
    (λ bad. absurd (true≢false (sym bad))),
    λ yes. absurd (true≢false (sym yes ∙ (at ∙ ap (λ (o : Option SeatFace). is_none o) ok))),
  )
    where
      at : get_or (map is_none feeders) i false ≡ is_none place
      at = given_at feeders i place (let l = as_kept table feeders h in omega arith)
          ∙ ap (λ (o : Option SeatFace). is_none o) (sym here)
  given_err (Err e) ok err = (
    (λ _. given_at feeders i place (let l = as_kept table feeders h in omega arith)
        ∙ ap (λ (o : Option SeatFace). is_none o) (sym here ∙ err)),
    λ _. refl,
  )

  pub given_input : {E : Type 0} (r : Result SeatFace E) → IfOk r (λ p. place ≡ Some p)
      → IfOk r (λ p. slice_get table i ≡ Some (face_of p))
  given_input (Ok p) ok = face_there table i (face_of p) lt
      ∙ ap (λ (t : InputFace). Some t) (sym (ap face_of (found p ok)))
  given_input (Err e) ok = tt

  pub given_unfed : {E : Type 0} (r : Result SeatFace E) → IfOk r (λ p. place ≡ Some p)
      → IfOk r IsUnfed
  given_unfed (Ok p) ok = numbered (get_or table i (face_of p)) p (found p ok)
  given_unfed (Err e) ok = tt

  pub given_pass : {E : Type 0} (r : Result SeatFace E) → AreNumbered table
      → IfOk r (λ p. place ≡ Some p) → IfOk r (IsFeedOf table)
  given_pass {E} (Ok p) n ok =
      let number : p.view.shape.input ≡ i = ap (λ (z : SeatFace). z.view.shape.input) (found p ok)
      ∙ n i (face_of p) lt in
      ap (slice_get table) number ∙ given_input {E = E} (Ok p) ok
  given_pass (Err e) n ok = tt

  pub kept_after : (place' : Option SeatFace) → place' ≡ None
      → AllZip IsKept table (set feeders i place')
  kept_after place' none = subst (λ (o : Option SeatFace). AllZip IsKept table (set feeders i o))
      (sym none) (kept_none table feeders i h)

pub given_after : (feeders : List (Option SeatFace)) (i : ℕ) (place : Option SeatFace)
    → place ≡ None → map is_none (set feeders i place) ≡ set (map is_none feeders) i true
given_after feeders i place none = ap (λ (o : Option SeatFace). map is_none (set feeders i o)) none
    ∙ given_set feeders i

pub on_ok : {A E X : Type 0} (r : Result A E) → X → OnOk r X
on_ok (Ok x) h = h
on_ok (Err e) h = tt

pub if_ok : {A E : Type 0} (P Q : A → Type 0) (r : Result A E) → IfOk r P → ((x : A) → P x → Q x)
    → IfOk r Q
if_ok P Q (Ok x) h more = more x h
if_ok P Q (Err e) h more = tt
