-- Map entries, and which row an output has at a frame of a tick. (This project's own.)
use Rattle.std.specs.Prelude.{◌≡◌, ◌≢◌, ℕ, suc, ◌<◌, ◌≤◌, Bool, true, false, eqb, nat_lt, ◌&&◌}
use Rattle.std.specs.Prelude.{not, List, [], ◌∷◌, length, Option, Some, None, IsSomeAnd, All}
use Rattle.std.specs.Prelude.{option_map}
use Rattle.std.specs.Option.{option_or}
use Rattle.io_caps.specs.declared.device.DeviceParts.{DeviceParts}
use Rattle.map_entry.specs.declared.cell.Cell.{Cell}
use Rattle.map_entry.specs.declared.entry.Entry.{Entry}
use Rattle.map_entry.specs.Row.{channels_of_output, IsRowOf}
use Rattle.map_entry.specs.Tick.{frame_key, position}

-- the entry that an output has a row from a frame of a tick on, published after a number of claims
abbrev pub entry_of : ℕ → ℕ → ℕ → List Cell → ℕ → Entry
entry_of output tick offset row at =
    record { output = output; tick = tick; offset = offset; row = row; at = at }

-- when an entry takes effect: at the frame of its tick that its offset says
abbrev pub due : Entry → ℕ
due entry = frame_key entry.tick entry.offset

-- the same as a position, where each tick has the given number of frames
abbrev pub position_of : ℕ → Entry → ℕ
position_of frames entry = position frames entry.tick entry.offset

-- ---- selection, by any key: a key says when an entry takes effect

-- whether an entry rules an output at a key: it is of this output, and has taken effect
abbrev pub rules : (Entry → ℕ) → ℕ → ℕ → Entry → Bool
rules key output at entry = eqb entry.output output && not (nat_lt at (key entry))

-- the row of an entry, where it rules
abbrev pub row_where : Bool → Entry → Option (List Cell)
row_where true entry = Some entry.row
row_where false entry = None

-- the row of the last entry, in list order, that rules the output at a key
abbrev pub selected_by : (Entry → ℕ) → List Entry → ℕ → ℕ → Option (List Cell)
selected_by key [] output at = None
selected_by key (entry ∷ entries) output at =
    option_or (selected_by key entries output at) (row_where (rules key output at entry) entry)

-- the row of the last entry, in list order, that is of the output and has taken effect at a frame
abbrev pub selected : List Entry → ℕ → ℕ → Option (List Cell)
selected entries output key = selected_by due entries output key

-- each entry counts from a frame that its tick has
abbrev pub HaveOffsets : ℕ → List Entry → Type 0
HaveOffsets frames entries = All (λ e. e.offset < frames) entries

-- the first place, where an entry rules there
abbrev pub first_where : Bool → Option ℕ
first_where true = Some 0
first_where false = None

-- the place of the last entry, in list order, that rules the output at a key
abbrev pub ruling_by : (Entry → ℕ) → List Entry → ℕ → ℕ → Option ℕ
ruling_by key [] output at = None
ruling_by key (entry ∷ entries) output at =
    option_or (option_map suc (ruling_by key entries output at))
    (first_where (rules key output at entry))

-- the place of the entry that rules an output at a frame
abbrev pub ruling : List Entry → ℕ → ℕ → Option ℕ
ruling entries output key = ruling_by due entries output key

-- From a frame of a tick up to another one, one entry rules; and at that other frame, if the tick
-- has it, another entry does. The tick has the given number of frames.
pub record IsPiece (entries : List Entry) (output tick frame frames upto : ℕ) : Type 0 where
  pub goes_on : frame < upto
  pub ends : upto ≤ frames
  pub same : (f : ℕ) → frame ≤ f → f < upto
      → ruling entries output (frame_key tick f) ≡ ruling entries output (frame_key tick frame)
  pub other : upto < frames
      → ruling entries output (frame_key tick upto) ≢ ruling entries output (frame_key tick frame)

-- none of these entries rules an output at a frame
abbrev pub IsUnruled : List Entry → ℕ → ℕ → Type 0
IsUnruled entries output key = All (λ e. rules due output key e ≡ false) entries

-- the first frame after one of a tick at which one of these entries rules an output, or the number
-- of the tick's frames if there is none
pub record IsFirstRuled (entries : List Entry) (output tick frame frames upto : ℕ) : Type 0 where
  pub goes_on : frame < upto
  pub ends : upto ≤ frames
  pub none : (f : ℕ) → frame ≤ f → f < upto → IsUnruled entries output (frame_key tick f)
  pub first : upto < frames → IsUnruled entries output (frame_key tick upto) → ⊥

-- ---- entries that fit a device

-- the entry's output is there, its row has a cell for each channel and passes the check, and it
-- counts from a frame that its tick has
pub record IsEntryOk (d : DeviceParts) (entry : Entry) : Type 0 where
  pub row : IsRowOf d entry.output entry.row
  pub offset : entry.offset < d.rate.frames

-- each output has a row from a frame on, with a cell for each of its channels
abbrev pub HasRowsFrom : DeviceParts → List Entry → ℕ → Type 0
HasRowsFrom d entries from =
    (output key : ℕ) → output < length d.outputs → from ≤ key
    → IsSomeAnd (selected entries output key) (λ row. length row ≡ channels_of_output d output)
