-- That blocks agree with what a pass has seen. (This project's own.)
use Rattle.std.specs.Prelude.{◌+◌, ◌==◌, ◌&&◌, ◌||◌, nat_le, nat_lt, ℕ, ◌≡◌, ◌*◌, ◌<◌, true, false}
use Rattle.std.specs.Prelude.{List, [], ◌∷◌, length, zero, suc, Option, None, IfSome, is_some}
use Rattle.std.specs.Prelude.{slice_index_or, Bool, ℤ}
use Rattle.std.specs.List.{All, AllZip, Contains}
use Rattle.io_caps.specs.declared.device.DeviceParts.{DeviceParts}
use Rattle.map_entry.specs.Row.{channels_of}
use Rattle.packet_writer.specs.Heard.{TickBlocks, sample_in}
use Rattle.packet_writer.specs.Packet.{Blocks}
use Rattle.input_rule.specs.declared.view.Look.{Look}
use Rattle.input_rule.specs.declared.view.HeardSample.{HeardSample}
use Rattle.input_rule.specs.declared.view.View.{View}
use Rattle.input_rule.specs.Views.{HasSeen}
use Rattle.input_rule.specs.Words.{HasTick, block_len}
use Rattle.input_rule.specs.Rule.{IsHeard, IsLook}
use Rattle.input_cells.specs.Faces.{HasInput, HasShape, HasView, InputFace, SeatFace}
use Rattle.input_cells.specs.Feeding.{block_fed}

-- a block that the pass saw is there; one that it missed after it had seen a closing number above
-- the tick is not; the samples that it read are those of the block; and a block that is there has
-- the shape of its input
pub record Agrees (d : DeviceParts) (looks : List Look) (heard : List HeardSample)
    (blocks : Blocks) : Type 0 where
  pub seen : All (λ l. l.present ≡ true → is_some (blocks l.input l.tick) ≡ true) looks
  pub missed : All (λ l. l.present ≡ false → l.tick < l.closed → blocks l.input l.tick ≡ None) looks
  pub read : All (λ h. sample_in (blocks h.input h.tick) h.place ≡ h.value) heard
  pub shape : (input tick : ℕ) → input < length d.inputs
      → IfSome (blocks input tick)
      (λ samples. length samples ≡ d.rate.frames * channels_of d.inputs input)

-- a sample of a tick that was read
pub record HasHeard (v : View) (tick place : ℕ) (value : ℤ) : Type 0 where
  pub heard : HeardSample
  pub among : Contains v.heard heard
  pub input_is : heard.input ≡ v.shape.input
  pub tick_is : heard.tick ≡ tick
  pub place_is : heard.place ≡ place
  pub value_is : heard.value ≡ value

-- a block of an input at a tick at which a look saw one: it is there and has the input's shape, and
-- the samples that were read are its samples
pub record IsHeardOf (v : View) (tick : ℕ) (block : Option (List ℤ)) : Type 0 where
  pub there : is_some block ≡ true
  pub shape : IfSome block (λ samples. length samples ≡ block_len v.shape)
  pub read : All (λ h. h.input ≡ v.shape.input → h.tick ≡ tick → sample_in block h.place ≡ h.value)
      v.heard

-- the blocks of a tick as a pass sees them by flags: where a flag is set the pass saw a block, and
-- the others are taken as none
pub record AreHeard (pass : List SeatFace) (tick : ℕ) (flags : List Bool)
    (blocks : TickBlocks) : Type 0 where
  pub silent : (input : ℕ) → slice_index_or flags input false ≡ false → blocks input ≡ None
  pub heard : (input : ℕ) → slice_index_or flags input false ≡ true
      → HasView pass input (λ v. IsHeardOf v tick (blocks input))

-- where a flag is set, the input is there and has the tick, and the pass saw its block
abbrev pub AreSeen : List InputFace → List SeatFace → ℕ → List Bool → Type 0
AreSeen table pass tick flags =
    (input : ℕ) → slice_index_or flags input false ≡ true
    → HasInput table input × HasShape table input (λ s. HasTick s tick)
    × HasView pass input (λ v. HasSeen v tick)

-- the same, told by tests
abbrev pub is_sight : ℕ → ℕ → Look → Bool
is_sight input tick l = l.input == input && (l.tick == tick && l.present)

-- one of the looks saw the block
abbrev pub any_sight : ℕ → ℕ → List Look → Bool
any_sight input tick [] = false
any_sight input tick (l ∷ ls) = is_sight input tick l || any_sight input tick ls

-- the pass saw the block of an input at a tick
abbrev pub sees : List SeatFace → ℕ → ℕ → Bool
sees [] input tick = false
sees (p ∷ ps) zero tick = any_sight p.view.shape.input tick p.view.looks
sees (p ∷ ps) (suc input) tick = sees ps input tick

-- the table has the tick at an input
abbrev pub has_tick : List InputFace → ℕ → ℕ → Bool
has_tick [] input tick = false
has_tick (t ∷ ts) zero tick = nat_le t.shape.from tick && nat_lt tick (t.shape.from + t.shape.ticks)
has_tick (t ∷ ts) (suc input) tick = has_tick ts input tick

-- where a flag is set, the input is there and has the tick, and the pass saw its block
abbrev pub AreSights : List InputFace → List SeatFace → ℕ → List Bool → Type 0
AreSights table pass tick flags =
    (input : ℕ) → slice_index_or flags input false ≡ true
    → HasInput table input × (has_tick table input tick ≡ true) × (sees pass input tick ≡ true)

-- the blocks that the feeders set, by input and tick
abbrev pub blocks_set : List SeatFace → Blocks
blocks_set [] input tick = None
blocks_set (p ∷ ps) zero tick = block_fed p tick
blocks_set (p ∷ ps) (suc input) tick = blocks_set ps input tick

-- looks and samples are true of the words that a feeder knows
pub record AreTrue (feeder reader : View) : Type 0 where
  pub looks : All (IsLook feeder.shape feeder.words) reader.looks
  pub heard : All (IsHeard feeder.shape feeder.words) reader.heard

-- what a pass knows at each input is true of the words of the feeder there
abbrev pub AreTrueOf : List SeatFace → List SeatFace → Type 0
AreTrueOf feeds pass = AllZip (λ f p. AreTrue f.view p.view) feeds pass
