-- What rows take of the input blocks of a tick. (This project's own; a frame's samples stand
-- together in channel order: RFC 3551, section 4.3.)
use Rattle.std.specs.Prelude.{◌≡◌, ℕ, ◌+◌, ◌*◌, ◌<◌, ◌≤◌, List, length, map, slice_get}
use Rattle.std.specs.Prelude.{slice_index_or, Option, Some, None, IfSome, ℤ, pos}
use Rattle.std.specs.List.{flat_map, range_with_len}
use Rattle.std.specs.Option.{unwrap_or}
use Rattle.io_caps.specs.declared.port.Input.{Input}
use Rattle.map_entry.specs.declared.cell.Cell.{Cell}
use Rattle.map_entry.specs.declared.cell.Cell.TheVariants.{Unrouted, From}
use Rattle.map_entry.specs.Row.{channels_of}

-- the blocks of one tick by input: the samples, or none
abbrev pub TickBlocks : Type 0
TickBlocks = ℕ → Option (List ℤ)

-- this holds of all blocks that agree with what is seen
abbrev pub OfAgreed : (TickBlocks → Type 0) → (TickBlocks → Type 0) → Type 0
OfAgreed agrees P = (b : TickBlocks) → agrees b → P b

-- what agrees now agreed before: as much is seen as before, or more
abbrev pub SeesMore : (TickBlocks → Type 0) → (TickBlocks → Type 0) → Type 0
SeesMore before now = OfAgreed now before

-- the rows of one tick by frame
abbrev pub RowsByFrame : Type 0
RowsByFrame = ℕ → List Cell

-- these have the same rows at a given number of frames
abbrev pub AreRows : ℕ → RowsByFrame → RowsByFrame → Type 0
AreRows frames rows others = (frame : ℕ) → frame < frames → rows frame ≡ others frame

-- ---- blocks

-- the sample at a place of a block; silence, which is 0, where there is none
abbrev pub sample_in : Option (List ℤ) → ℕ → ℤ
sample_in None place = pos 0
sample_in (Some samples) place = slice_index_or samples place (pos 0)

-- a given number of frames of a channel, from a frame on
abbrev pub channel_samples : Option (List ℤ) → ℕ → ℕ → ℕ → ℕ → List ℤ
channel_samples block channels channel frame frames =
    map (λ f. sample_in block (f * channels + channel)) (range_with_len frame frames)

-- a block that is there has a given number of frames
abbrev pub HasFrames : Option (List ℤ) → ℕ → ℕ → Type 0
HasFrames block channels frames = IfSome block (λ samples. frames * channels ≤ length samples)

-- each input's block, where it is there, has a given number of frames
abbrev pub HaveFrames : List Input → TickBlocks → ℕ → Type 0
HaveFrames inputs blocks frames =
    (input : ℕ) → HasFrames (blocks input) (channels_of inputs input) frames

-- a list's blocks by their places
abbrev pub listed : List (Option (List ℤ)) → TickBlocks
listed blocks input = unwrap_or (slice_get blocks input) None

-- these are the blocks of a list
abbrev pub AreListed : List (Option (List ℤ)) → TickBlocks → Type 0
AreListed list blocks = (input : ℕ) → blocks input ≡ listed list input

-- ---- rows

-- what a cell selects at a frame: the sample of its input's block, and silence where the cell or
-- the block is none
abbrev pub heard : List Input → TickBlocks → ℕ → Cell → ℤ
heard inputs blocks frame Unrouted = pos 0
heard inputs blocks frame (From input channel) =
    sample_in (blocks input) (frame * channels_of inputs input + channel)

-- the samples of a given number of frames from a frame on, each frame in channel order and by its
-- own row
abbrev pub samples_from : List Input → TickBlocks → RowsByFrame → ℕ → ℕ → List ℤ
samples_from inputs blocks rows frame frames =
    flat_map (λ f. map (heard inputs blocks f) (rows f)) (range_with_len frame frames)
