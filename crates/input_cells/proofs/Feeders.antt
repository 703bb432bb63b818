-- All feeders' passes of a table, one after the other.
use Rattle.std.proofs.Common.{◌≡◌, ℕ, ◌+◌, List, [], ◌∷◌, ◌++◌, length, map, take, sym, ap, ◌∙◌}
use Rattle.std.proofs.Common.{arith}
use Rattle.std.proofs.lemmas.List.{map-append, take_all, take_more}
use Rattle.std.proofs.lemmas.Option.{get_or_from_slice_get, slice_get_within}
use Rattle.std.specs.Prelude.{Some, slice_get}
use Rattle.input_cells.specs.Faces.{InputFace, SeatFace, face_of}

-- one more
pub feeders_more : (table : List InputFace) (made : List SeatFace) (pass : SeatFace) (n : ℕ)
    → map face_of made ≡ take n table → slice_get table n ≡ Some (face_of pass)
    → map face_of (made ++ pass ∷ []) ≡ take (n + 1) table
feeders_more table made pass n so_far is =
    let f : InputFace = face_of pass in
    map-append face_of made (pass ∷ [])
    ∙ ap (λ (l : List InputFace). l ++ f ∷ []) so_far
    ∙ ap (λ (x : InputFace). take n table ++ x ∷ []) (sym (get_or_from_slice_get table n f f is))
    ∙ sym (take_more table n f (slice_get_within table n f is))

-- all of them
pub feeders_all : (table : List InputFace) (made : List SeatFace) (n : ℕ) → length table ≡ n
    → map face_of made ≡ take n table → map face_of made ≡ table
feeders_all table made n all is = is ∙ take_all n table (omega arith)
