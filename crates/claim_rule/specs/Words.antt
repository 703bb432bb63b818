-- How a table spells its entries, by words of 64 bits. (This project's own.)
use Rattle.std.specs.Prelude.{◌≡◌, ℕ, ◌+◌, ◌*◌, ◌^◌, ◌<◌, List, ◌∷◌}
use Rattle.std.specs.Prelude.{map, length, slice_index, slice_index_or}
use Rattle.io_caps.specs.declared.limits.TheConstants.{MOST_CHANNELS, PLACES}
use Rattle.map_entry.specs.declared.cell.Cell.{Cell}
use Rattle.map_entry.specs.declared.cell.Cell.TheVariants.{Unrouted, From}
use Rattle.map_entry.specs.declared.entry.Entry.{Entry}

-- how many entries a table has room for
abbrev pub places : ℕ
places = PLACES

-- how many words stand in front of an entry's cells, and how many an entry takes, however few
-- channels its output has
abbrev pub head_words : ℕ
head_words = 2

-- how many words a place has: the head's, and one for each channel
abbrev pub stride : ℕ
stride = head_words + MOST_CHANNELS

-- word 0: how many entries are published, above how many numbers were drawn
abbrev pub state_word : ℕ → ℕ → ℕ
state_word count drawn = count * 2 ^ 32 + drawn

-- a cell: nothing, or one more than the input and the channel, of 8 bits each
abbrev pub cell_word : Cell → ℕ
cell_word Unrouted = 0
cell_word (From input channel) = (input * 2 ^ 8 + channel) + 1

-- a cell whose numbers have 8 bits, so that a word can spell it
abbrev pub IsByteCell : Cell → Type 0
IsByteCell Unrouted = Unit {0}
IsByteCell (From input channel) = (input < 2 ^ 8) × (channel < 2 ^ 8)

-- an entry: its tick above 6 bits of its output, the claims at its publication above 8 bits of its
-- offset, and its cells
abbrev pub entry_words : Entry → List ℕ
entry_words e =
    (e.tick * 2 ^ 6 + e.output) ∷ (e.at * 2 ^ 8 + e.offset) ∷ map cell_word e.row

-- the words of the place i spell the entry
abbrev pub IsSpeltAt : List ℕ → ℕ → Entry → Type 0
IsSpeltAt cells i e = (k : ℕ) → k < length (entry_words e)
    → slice_index cells (i * stride + k) ≡ slice_index (entry_words e) k

-- the words spell the entries, place by place
abbrev pub Spells : List ℕ → List Entry → Type 0
Spells cells list = (i : ℕ) (d : Entry) → i < length list
    → IsSpeltAt cells i (slice_index_or list i d)
