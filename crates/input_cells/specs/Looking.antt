-- What one call of a pass looks at and loads. (This project's own.)
use Rattle.std.specs.Prelude.{ℕ, ◌≡◌, ◌<◌, ◌≤◌, zero, suc, Bool, true, false}
use Rattle.std.specs.Prelude.{List, [], ◌∷◌, ◌++◌}
use Rattle.input_rule.specs.declared.view.Look.{Look}
use Rattle.input_rule.specs.Views.{HasSeen}
use Rattle.input_rule.specs.Words.{HasTick}
use Rattle.packet_writer.specs.Packet.{flag_of}
use Rattle.input_cells.specs.declared.looking.StillOpen.{StillOpen}
use Rattle.input_cells.specs.Faces.{HasInput, HasShape, HasView, InputFace, SeatFace}

-- the table has the tick, at each of its inputs
abbrev pub HasTickEach : List InputFace → ℕ → Type 0
HasTickEach table tick =
    (input : ℕ) → HasInput table input → HasShape table input (λ s. HasTick s tick)

-- the looks of a pass at an input
abbrev pub looks_at : List SeatFace → ℕ → List Look
looks_at [] input = []
looks_at (p ∷ ps) zero = p.view.looks
looks_at (p ∷ ps) (suc input) = looks_at ps input

-- the closing numbers of an input that a pass saw
abbrev pub closings_at : List SeatFace → ℕ → List ℕ
closings_at [] input = []
closings_at (p ∷ ps) zero = p.view.closings
closings_at (p ∷ ps) (suc input) = closings_at ps input

-- the pass neither looked at an input nor loaded its closing number
abbrev pub IsUntouched : List SeatFace → List SeatFace → ℕ → Type 0
IsUntouched before after input =
    (looks_at after input ≡ looks_at before input)
    × (closings_at after input ≡ closings_at before input)

-- the pass loaded the closing number of an input, or of the pace, once: this one
abbrev pub IsLoaded : List SeatFace → List SeatFace → ℕ → ℕ → Type 0
IsLoaded before after input closed =
    closings_at after input ≡ closings_at before input ++ closed ∷ []

-- the number that it loaded once is above the tick
pub record IsLoadedAbove (before after : List SeatFace) (input tick : ℕ) : Type 0 where
  pub closed : ℕ
  pub loaded : IsLoaded before after input closed
  pub late : tick < closed

-- the look came after a closing number above its tick
abbrev pub IsLate : Look → Type 0
IsLate l = l.tick < l.closed

-- The pass looked at an input once, at the tick, and found what the flag says. A block that it
-- found stays seen, and one that it had seen before is there.
pub record LookedOnce (before after : List SeatFace) (input tick : ℕ) (there : Bool) : Type 0 where
  pub look : Look
  pub only : looks_at after input ≡ looks_at before input ++ look ∷ []
  pub input_is : look.input ≡ input
  pub tick_is : look.tick ≡ tick
  pub present_is : look.present ≡ there
  pub seen : there ≡ true → HasView after input (λ v. HasSeen v tick)
  pub again : HasView before input (λ v. HasSeen v tick) → there ≡ true

-- it looked once, and loaded no closing number of the input
pub record LookedFree (before after : List SeatFace) (input tick : ℕ) (there : Bool) : Type 0 where
  pub looked : LookedOnce before after input tick there
  pub closings : closings_at after input ≡ closings_at before input

-- it looked once, after one load of the input's closing number, which was above the tick
pub record LookedClosed (before after : List SeatFace) (input tick : ℕ)
    (there : Bool) : Type 0 where
  pub looked : LookedOnce before after input tick there
  pub loaded : IsLoaded before after input looked.look.closed
  pub late : tick < looked.look.closed

-- it loaded the closing number of the input once, which was not above the tick, and did not look
pub record IsOpenHere (before after : List SeatFace) (input tick : ℕ) (e : StillOpen) : Type 0 where
  pub input_is : e.input ≡ input
  pub loaded : IsLoaded before after input e.closed
  pub low : e.closed ≤ tick
  pub looks : looks_at after input ≡ looks_at before input

-- In free form, of a given number of inputs: a named one's flag is what the one look at it found.
-- Another's is not set, and neither it nor the pace, which has the next number, was touched.
pub record SeesFree (inputs tick : ℕ) (named : ℕ → Bool) (before after : List SeatFace)
    (found : List Bool) : Type 0 where
  pub looked : (input : ℕ) → input < inputs → named input ≡ true
      → LookedFree before after input tick (flag_of found input)
  pub other : (input : ℕ) → input < inputs → named input ≡ false
      → (flag_of found input ≡ false) × IsUntouched before after input
  pub pace : IsUntouched before after inputs

-- In closed form, of a given number of inputs: a named one's flag is what the one look at it found,
-- after one load of its closing number, which was above the tick. Another's is not set, and it was
-- not touched. And the number of the pace, loaded once, was above the tick.
pub record SeesClosed (inputs tick : ℕ) (named : ℕ → Bool) (before after : List SeatFace)
    (found : List Bool) : Type 0 where
  pub looked : (input : ℕ) → input < inputs → named input ≡ true
      → LookedClosed before after input tick (flag_of found input)
  pub other : (input : ℕ) → input < inputs → named input ≡ false
      → (flag_of found input ≡ false) × IsUntouched before after input
  pub pace : IsLoadedAbove before after inputs tick

-- A closing number that was loaded once is not above the tick: that of a named input, or of the
-- pace. It is the first such: those of the named inputs before it were loaded once and were above;
-- and nothing after it was touched.
pub record IsOpenAt (inputs tick : ℕ) (named : ℕ → Bool) (before after : List SeatFace)
    (e : StillOpen) : Type 0 where
  pub within : e.input ≤ inputs
  pub named_it : e.input < inputs → named e.input ≡ true
  pub loaded : IsLoaded before after e.input e.closed
  pub low : e.closed ≤ tick
  pub first : (input : ℕ) → input < e.input → named input ≡ true
      → IsLoadedAbove before after input tick
  pub behind : (input : ℕ) → e.input < input → IsUntouched before after input
