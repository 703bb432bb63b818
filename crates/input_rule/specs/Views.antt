-- What a pass knows of one input's table, and how it comes to know more. (This project's own.)
use Rattle.std.specs.Prelude.{ℕ, ◌≡◌, ◌<◌, Bool, true, false, List, [], ◌∷◌, ◌++◌, slice_set, ℤ}
use Rattle.std.specs.List.{Contains}
use Rattle.input_rule.specs.declared.view.Shape.{Shape}
use Rattle.input_rule.specs.declared.view.View.{View}
use Rattle.input_rule.specs.declared.view.Look.{Look}

-- the feeder, which knows all words
abbrev pub feeder : Shape → List ℕ → View
feeder shape words =
    record {
      live = true;
      shape = shape;
      feeds = true;
      words = words;
      closings = [];
      looks = [];
      heard = [];
    }

-- a reader that has seen nothing
abbrev pub newcomer : Shape → View
newcomer shape =
    record {
      live = true;
      shape = shape;
      feeds = false;
      words = [];
      closings = [];
      looks = [];
      heard = [];
    }

-- a new reader of the same table
abbrev pub reader : View → View
reader v = newcomer v.shape

-- what one knows who took in another's view, and what is left of the other: nothing
abbrev pub taken_in : View → View → View
taken_in v w =
    record v {
      closings = v.closings ++ w.closings;
      looks = v.looks ++ w.looks;
      heard = v.heard ++ w.heard;
    }

-- what is left of a view that was taken in: it is of no table, and knows nothing
abbrev pub spent : View
spent =
    record {
      live = false;
      shape = record { input = 0; from = 0; ticks = 0; frames = 0; channels = 0 };
      feeds = false;
      words = [];
      closings = [];
      looks = [];
      heard = [];
    }

-- the number last seen of those in a list, or 0
abbrev pub last_of : List ℕ → ℕ
last_of [] = 0
last_of (x ∷ []) = x
last_of (x ∷ y ∷ ys) = last_of (y ∷ ys)

-- the closing number that a reader saw last, and 0 where it saw none
abbrev pub closed_of : View → ℕ
closed_of v = last_of v.closings

-- the feeder stored a word
abbrev pub wrote : View → ℕ → ℕ → View
wrote v place word = record v { words = slice_set v.words place word }

-- a reader saw a closing number
abbrev pub saw : View → ℕ → View
saw v number = record v { closings = v.closings ++ number ∷ [] }

-- a reader looked at a tick
abbrev pub looked : View → ℕ → Bool → View
looked v tick present =
    record v {
      looks = v.looks
          ++ record { input = v.shape.input; tick = tick; present = present; closed = closed_of v }
          ∷ [];
    }

-- a reader read a sample of a tick, at a place of its block
abbrev pub listened : View → ℕ → ℕ → ℤ → View
listened v tick place value =
    record v {
      heard = v.heard
          ++ record { input = v.shape.input; tick = tick; place = place; value = value } ∷ [];
    }

-- a look of this view saw the block of the tick
pub record HasSeen (v : View) (tick : ℕ) : Type 0 where
  pub look : Look
  pub among : Contains v.looks look
  pub input_is : look.input ≡ v.shape.input
  pub tick_is : look.tick ≡ tick
  pub saw_it : look.present ≡ true

-- a look of this view found no block at the tick, after a closing number above it had been seen
pub record HasMissed (v : View) (tick : ℕ) : Type 0 where
  pub look : Look
  pub among : Contains v.looks look
  pub input_is : look.input ≡ v.shape.input
  pub tick_is : look.tick ≡ tick
  pub missed_it : look.present ≡ false
  pub late : tick < look.closed
