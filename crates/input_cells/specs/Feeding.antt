-- What the calls of a feeder's pass leave. (This project's own.)
use Rattle.std.specs.Prelude.{ℕ, ◌≡◌, ◌≢◌, ◌-◌, ◌<◌, ◌≤◌, true, max, List, length, slice_index}
use Rattle.std.specs.Prelude.{slice_index_or, slice_set, Option, Some, ℤ, pos}
use Rattle.input_rule.specs.declared.view.Shape.{Shape}
use Rattle.input_rule.specs.declared.view.View.{View}
use Rattle.input_rule.specs.Words.{AreLater, AreWords, HasTick, block_at, block_len, closing}
use Rattle.input_rule.specs.Words.{presence, sample_at, sample_of, sample_word}
use Rattle.input_rule.specs.Views.{wrote}
use Rattle.input_cells.specs.Faces.{FeedsInput, SeatFace}
use Rattle.input_cells.specs.Shapes.{IsSmall}
use Rattle.input_cells.specs.Ticks.{bit_of}

-- the block that a feeder's pass set at a tick, if any
abbrev pub block_fed : SeatFace → ℕ → Option (List ℤ)
block_fed pass tick = block_at pass.view.shape pass.view.words tick

-- the closing number that a feeder's pass stands at
abbrev pub closing_of : SeatFace → ℕ
closing_of pass = closing pass.view.words

-- the pass may set this block at the tick: it is an input's, the table has the tick, the tick is
-- not closed, and the block has the input's shape
abbrev pub MaySet : SeatFace → ℕ → List ℤ → Type 0
MaySet pass tick block =
    FeedsInput pass × HasTick pass.view.shape tick × (closing_of pass ≤ tick)
    × (length block ≡ block_len pass.view.shape)

-- of a feeder's pass its words alone changed, and to later ones
pub record FeedsOn (before after : SeatFace) : Type 0 where
  pub words : List ℕ
  pub only : after ≡ record before { view = record before.view { words = words } }
  pub later : AreLater before.view.shape before.view.words words

-- the block was set, and nothing else changed
pub record Sets (before after : SeatFace) (tick : ℕ) (block : List ℤ) : Type 0 where
  pub on : FeedsOn before after
  pub here : block_fed after tick ≡ Some block
  pub others : (t : ℕ) → t ≢ tick → block_fed after t ≡ block_fed before t
  pub closing : closing_of after ≡ closing_of before

-- the closing number was raised, or was not below already, and nothing else changed
pub record Closes (before after : SeatFace) (upto : ℕ) : Type 0 where
  pub on : FeedsOn before after
  pub closing : closing_of after ≡ max (closing_of before) upto
  pub blocks : (t : ℕ) → block_fed after t ≡ block_fed before t

-- one word was stored
pub record Stores (before after : SeatFace) (place word : ℕ) : Type 0 where
  pub only : after ≡ record before { view = wrote before.view place word }
  pub later : AreLater before.view.shape before.view.words (slice_set before.view.words place word)
  pub room : place < length before.view.words

-- a sample was stored
pub record StoresSample (before after : SeatFace) (tick place : ℕ) (sample : ℤ) : Type 0 where
  pub word : ℕ
  pub spells : sample_of word ≡ sample
  pub stored : Stores before after (sample_word before.view.shape tick place) word

-- a given number of samples of a block were stored, and no presence or closing number
pub record Spells (before after : SeatFace) (tick : ℕ) (block : List ℤ) (count : ℕ) : Type 0 where
  pub on : FeedsOn before after
  pub low : (word : ℕ) → word ≤ before.view.shape.ticks
      → slice_index after.view.words word ≡ slice_index before.view.words word
  pub spelt : (place : ℕ) → place < count
      → sample_at before.view.shape after.view.words tick place
      ≡ slice_index_or block place (pos 0)

-- ---- what the types keep

-- a feeder's seat knows what the words show
pub record IsFeeding (v : View) : Type 0 where
  pub live : v.live ≡ true
  pub feeds : v.feeds ≡ true
  pub words : AreWords v.shape v.words

-- a feeder's pass remembers its closing number, and the ticks that it set
pub record IsFeedPass (v : View) (shape : Shape) (closed : ℕ) (set : List ℕ) : Type 0 where
  pub shape_is : v.shape ≡ shape
  pub small : IsSmall shape
  pub closed_is : closing v.words ≡ closed
  pub set_is : (tick : ℕ) → HasTick v.shape tick
      → slice_index v.words (presence v.shape tick) ≡ bit_of set (tick - v.shape.from)
