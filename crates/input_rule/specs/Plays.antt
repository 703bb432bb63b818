-- What each kind of step tells the pass that makes it. (This project's own.)
use Rattle.std.specs.Prelude.{ℕ, ◌≡◌, ◌+◌, ◌-◌, ◌/◌, ◌%◌, ◌^◌, ◌<◌, ◌≤◌, ◌==◌}
use Rattle.std.specs.List.{All, Contains}
use Rattle.atomic_table.specs.Table.{Me, Step}
use Rattle.input_rule.specs.declared.view.Shape.{Shape}
use Rattle.input_rule.specs.declared.view.View.{View}
use Rattle.input_rule.specs.declared.view.HeardSample.{HeardSample}
use Rattle.input_rule.specs.Words.{block_len, place_in_block, sample_of}
use Rattle.input_rule.specs.Views.{HasSeen, HasMissed, closed_of, listened, looked, saw, wrote}
use Rattle.input_rule.specs.Rule.{IsLook, IsHeard}

-- a seat: its view, and the slots that it holds, of which this table has none
abbrev pub Sitting : Type 0
Sitting = Me ℕ View

-- the tick of a presence word, and tick and place of a sample word
abbrev pub presence_tick : Shape → ℕ → ℕ
presence_tick shape word = shape.from + (word - 1)

-- the tick of a sample's word
abbrev pub sample_tick : Shape → ℕ → ℕ
sample_tick shape word = shape.from + (word - (1 + shape.ticks)) / block_len shape

-- the place of a sample's word in its block
abbrev pub sample_place : Shape → ℕ → ℕ
sample_place shape word = place_in_block shape ((word - (1 + shape.ticks)) % block_len shape)

-- the feeder stored a word
abbrev pub writes : Step ℕ → Sitting → ℕ → Sitting → Type 0
writes step m stored after = after ≡ (wrote m.0 step.word step.first, m.1)

-- a reader loaded the closing number, which is not below the last one that it saw, nor below the
-- first tick
abbrev pub sees : Step ℕ → Sitting → ℕ → Sitting → Type 0
sees step m found after = (after ≡ (saw m.0 found, m.1)) × (closed_of m.0 ≤ found)
    × (m.0.shape.from ≤ found)

-- a reader loaded a presence word, which is 1 where it saw the block before, and 0 where it missed
-- it after its tick was closed
abbrev pub looks : Step ℕ → Sitting → ℕ → Sitting → Type 0
looks step m found after =
    (after ≡ (looked m.0 (presence_tick m.0.shape step.word) (found == 1), m.1))
    × (HasSeen m.0 (presence_tick m.0.shape step.word) → found ≡ 1)
    × (HasMissed m.0 (presence_tick m.0.shape step.word) → found ≡ 0)

-- a reader loaded a sample word, which is what it was before
abbrev pub hears : Step ℕ → Sitting → ℕ → Sitting → Type 0
hears step m found after =
    (after ≡ (
      listened m.0 (sample_tick m.0.shape step.word) (sample_place m.0.shape step.word)
          (sample_of found),
      m.1,
    ))
    × (found < 2 ^ 32)
    × ((h : HeardSample) → Contains m.0.heard h → h.tick ≡ sample_tick m.0.shape step.word
    → h.place ≡ sample_place m.0.shape step.word → h.value ≡ sample_of found)

-- the looks and samples of the feeder's view are true of the words that it knows
abbrev pub learns : Step ℕ → Sitting → ℕ → Sitting → Type 0
learns step m found after =
    (after ≡ m) × All (IsLook m.0.shape m.0.words) m.0.looks
    × All (IsHeard m.0.shape m.0.words) m.0.heard
