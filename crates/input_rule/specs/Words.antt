-- What the words of one input's table show: a closing number, and blocks. (This project's own.)
use Rattle.std.specs.Prelude.{ℕ, ◌≡◌, ◌+◌, ◌-◌, ◌*◌, ◌/◌, ◌%◌, ◌^◌, ◌<◌, ◌≤◌, ◌==◌, ◌&&◌}
use Rattle.std.specs.Prelude.{nat_le, nat_lt, Bool, List, ◌∷◌, length, map, replicate, slice_index}
use Rattle.std.specs.Prelude.{if◌then◌else◌, Option, Some, None, ℤ, pos, ◌-ℤ◌}
use Rattle.std.specs.List.{range_with_len}
use Rattle.input_rule.specs.declared.view.Shape.{Shape}

-- ---- how the words lie

-- the samples of a block
abbrev pub block_len : Shape → ℕ
block_len shape = shape.frames * shape.channels

-- all words: the closing number, a presence word for each tick, and a sample word for each sample
abbrev pub words_len : Shape → ℕ
words_len shape = 1 + (shape.ticks + shape.ticks * block_len shape)

-- the table has the tick
abbrev pub HasTick : Shape → ℕ → Type 0
HasTick shape tick = (shape.from ≤ tick) × (tick < shape.from + shape.ticks)

-- the presence word of a tick
abbrev pub presence : Shape → ℕ → ℕ
presence shape tick = 1 + (tick - shape.from)

-- the first sample word of a tick
abbrev pub block_start : Shape → ℕ → ℕ
block_start shape tick = 1 + (shape.ticks + (tick - shape.from) * block_len shape)

-- the word of a place of a block, of those of the block: channel by channel, and each channel in
-- frame order
abbrev pub word_in_block : Shape → ℕ → ℕ
word_in_block shape place = place % shape.channels * shape.frames + place / shape.channels

-- the place of a word of a block
abbrev pub place_in_block : Shape → ℕ → ℕ
place_in_block shape word = word % shape.frames * shape.channels + word / shape.frames

-- the sample word of a tick and a place in its block
abbrev pub sample_word : Shape → ℕ → ℕ → ℕ
sample_word shape tick place = block_start shape tick + word_in_block shape place

-- the words at the start: the closing number is the first tick, and there is no block
abbrev pub first_words : Shape → List ℕ
first_words shape = shape.from ∷ replicate (shape.ticks + shape.ticks * block_len shape) 0

-- ---- what they show

-- the least number of 32 bits, two's complement, is told by 0
abbrev pub SAMPLE_OFFSET : ℕ
SAMPLE_OFFSET = 2 ^ 31

-- the sample that a word spells
abbrev pub sample_of : ℕ → ℤ
sample_of word = pos word -ℤ pos SAMPLE_OFFSET

-- the closing number: the ticks below it are closed
abbrev pub closing : List ℕ → ℕ
closing words = slice_index words 0

-- the block of a tick is there
abbrev pub IsPresent : Shape → List ℕ → ℕ → Type 0
IsPresent shape words tick = slice_index words (presence shape tick) ≡ 1

-- the block of a tick is not there
abbrev pub IsAbsent : Shape → List ℕ → ℕ → Type 0
IsAbsent shape words tick = slice_index words (presence shape tick) ≡ 0

-- the sample of a tick at a place of its block
abbrev pub sample_at : Shape → List ℕ → ℕ → ℕ → ℤ
sample_at shape words tick place = sample_of (slice_index words (sample_word shape tick place))

-- the table has the tick, and its block is there
abbrev pub is_present : Shape → List ℕ → ℕ → Bool
is_present shape words tick = nat_le shape.from tick && nat_lt tick (shape.from + shape.ticks)
    && slice_index words (presence shape tick) == 1

-- the samples that the words of a tick spell, frame by frame and each frame in channel order
abbrev pub samples_at : Shape → List ℕ → ℕ → List ℤ
samples_at shape words tick = map (sample_at shape words tick) (range_with_len 0 (block_len shape))

-- the block of a tick, where it is there
abbrev pub block_at : Shape → List ℕ → ℕ → Option (List ℤ)
block_at shape words tick = if is_present shape words tick then Some (samples_at shape words tick)
    else None

-- ---- what holds of the words, and how they change

-- a presence word is 0 or 1, no tick before the table is open, and each sample word spells a number
-- of 32 bits
pub record AreWords (shape : Shape) (words : List ℕ) : Type 0 where
  pub len : length words ≡ words_len shape
  pub begun : shape.from ≤ closing words
  pub presence : (tick : ℕ) → HasTick shape tick → slice_index words (presence shape tick) ≤ 1
  pub spelt : (place : ℕ) → shape.ticks < place → slice_index words place < 2 ^ 32

-- Later words: the closing number never falls, a block that is there stays as it is, and after a
-- closing above a tick nothing comes at the tick.
pub record AreLater (shape : Shape) (before after : List ℕ) : Type 0 where
  pub rises : closing before ≤ closing after
  pub stays : (tick : ℕ) → HasTick shape tick → IsPresent shape before tick
      → IsPresent shape after tick
  pub same : (tick place : ℕ) → HasTick shape tick → place < block_len shape
      → IsPresent shape before tick
      → sample_at shape after tick place ≡ sample_at shape before tick place
  pub settled : (tick : ℕ) → HasTick shape tick → tick < closing before → IsAbsent shape before tick
      → IsAbsent shape after tick
