-- The rows of a packet by frame, in pieces. (This project's own.)
use Rattle.std.specs.Prelude.{◌≡◌, ℕ, ◌-◌, ◌*◌, ◌≤◌, ◌<◌, ◌||◌, not, eqb, if◌then◌else◌, nat_lt}
use Rattle.std.specs.Prelude.{Bool, true, false, List, [], ◌∷◌, ◌++◌, length, take, drop, count_by}
use Rattle.std.specs.Prelude.{Option, Some, None}
use Rattle.std.specs.List.{range_with_len}
use Rattle.io_caps.specs.declared.device.DeviceParts.{DeviceParts}
use Rattle.io_caps.specs.declared.limits.TheConstants.{MOST_FRAMES}
use Rattle.map_entry.specs.declared.cell.Cell.{Cell}
use Rattle.map_entry.specs.declared.entry.Entry.{Entry}
use Rattle.map_entry.specs.Entry.{IsPiece, ruling, selected}
use Rattle.map_entry.specs.Row.{IsRowOf}
use Rattle.map_entry.specs.Tick.{frame_key}
use Rattle.claim_word.specs.declared.worker.Claim.{Claim}
use Rattle.packet_worker.specs.declared.rows.TheConstants.{MOST_CELLS}

-- a row, and the frame up to which it rules
pub record RowUpto : Type 0 where
  pub row : List Cell
  pub upto : ℕ

-- the rows of an output's packet: how many cells each has, and its pieces in order
pub record RowsFace : Type 0 where
  pub channels : ℕ
  pub pieces : List RowUpto

-- the row at a frame: that of the first piece that goes further; past the last one there is none
abbrev pub row_in : List RowUpto → ℕ → List Cell
row_in [] frame = []
row_in (p ∷ ps) frame = if nat_lt frame p.upto then p.row else row_in ps frame

-- the pieces that go up to these frames, and whose rows of a given number of cells are these, one
-- after the other
abbrev pub pieces_of : ℕ → List ℕ → List Cell → List RowUpto
pieces_of channels [] cells = []
pieces_of channels (upto ∷ uptos) cells =
    record { row = take channels cells; upto = upto } ∷ pieces_of channels uptos
    (drop channels cells)

-- a row of a given number of cells for each piece, and room for those of any packet
pub record HasRoom (channels : ℕ) (uptos : List ℕ) (cells : List Cell) (places cell_places : ℕ)
    : Type 0 where
  pub long : length cells ≡ length uptos * channels
  pub uptos_room : MOST_FRAMES ≤ places
  pub cells_room : MOST_CELLS ≤ cell_places

-- The piece of the claim's tick was added that begins at a frame and goes up to another: its row is
-- the one that these entries select at each frame of it, and fits the output.
pub record IsPieceAdded (d : DeviceParts) (entries : List Entry) (c : Claim) (frame upto : ℕ)
    (before after : RowsFace) : Type 0 where
  pub piece : IsPiece entries c.output c.tick frame d.rate.frames upto
  pub row : List Cell
  pub added : after
      ≡ record before { pieces = before.pieces ++ record { row = row; upto = upto } ∷ [] }
  pub fits : IsRowOf d c.output row
  pub rules : (f : ℕ) → frame ≤ f → f < upto
      → selected entries c.output (frame_key c.tick f) ≡ Some row

-- whether two places are the same, or none both
abbrev pub same_place : Option ℕ → Option ℕ → Bool
same_place None None = true
same_place None (Some j) = false
same_place (Some i) None = false
same_place (Some i) (Some j) = eqb i j

-- whether a piece of an output's packet begins at a frame: the first one, or one at which another
-- entry rules than at the frame before
abbrev pub begins_piece : List Entry → ℕ → ℕ → ℕ → Bool
begins_piece entries output tick frame =
    eqb frame 0
    || not (same_place (ruling entries output (frame_key tick (frame - 1)))
    (ruling entries output (frame_key tick frame)))

-- how many pieces the packet of an output has, of a given number of frames
abbrev pub pieces_in : List Entry → ℕ → ℕ → ℕ → ℕ
pieces_in entries output tick frames =
    count_by (begins_piece entries output tick) (range_with_len 0 frames)

-- the pieces have the rows that these entries select for the claim at its tick's frames, of a given
-- number, and each fits the output
pub record AreRowsOf (d : DeviceParts) (entries : List Entry) (c : Claim) (frames : ℕ)
    (pieces : List RowUpto) : Type 0 where
  pub selects : (f : ℕ) → f < frames
      → selected entries c.output (frame_key c.tick f) ≡ Some (row_in pieces f)
  pub fits : (f : ℕ) → f < frames → IsRowOf d c.output (row_in pieces f)
