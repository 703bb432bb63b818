-- Rows that a pass holds, each with the place of its entry. (This project's own.)
use Rattle.std.specs.Prelude.{◌≡◌, ℕ, ◌<◌, List, [], length, Option, None, IfSome, slice_index_or}
use Rattle.map_entry.specs.declared.cell.Cell.{Cell}
use Rattle.map_entry.specs.declared.entry.Entry.{Entry}

-- the row is that of the entry at a place
pub record IsRowAt (entries : List Entry) (row : List Cell) (place : ℕ) : Type 0 where
  pub there : place < length entries
  pub its : (d : Entry) → row ≡ (slice_index_or entries place d).row

-- the row of an output in a list of them
abbrev pub row_at : List (List Cell) → ℕ → List Cell
row_at rows output = slice_index_or rows output []

-- the place whose entry's row an output has, if it was read
abbrev pub held_at : List (Option ℕ) → ℕ → Option ℕ
held_at held output = slice_index_or held output None

-- each output that has the row of a place has that of its entry
abbrev pub AreHeld : List Entry → List (Option ℕ) → List (List Cell) → Type 0
AreHeld entries held rows =
    (output : ℕ) → IfSome (held_at held output) (IsRowAt entries (row_at rows output))

-- a number of outputs have places
pub record IsHeld (entries : List Entry) (outputs : ℕ) (held : List (Option ℕ))
    (rows : List (List Cell)) : Type 0 where
  pub count : length held ≡ outputs
  pub are : AreHeld entries held rows
