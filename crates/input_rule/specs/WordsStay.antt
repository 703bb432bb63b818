-- That words go on to later ones, and that what was seen in them stays so. (This project's own.)
use Rattle.std.specs.Prelude.{ℕ, ◌≡◌, ◌<◌, List, Some, None, ℤ}
use Rattle.input_rule.specs.declared.view.Shape.{Shape}
use Rattle.input_rule.specs.declared.view.Look.{Look}
use Rattle.input_rule.specs.declared.view.HeardSample.{HeardSample}
use Rattle.input_rule.specs.Words.{AreLater, AreWords, block_at, closing, first_words}
use Rattle.input_rule.specs.Rule.{IsHeard, IsLook}

-- words that are later than later ones are later
abbrev pub GoOn : Type 0
GoOn = (shape : Shape) (a b c : List ℕ) → AreLater shape a b → AreLater shape b c
    → AreLater shape a c

-- a look that is true of words is true of later ones
abbrev pub KeepsLooks : Type 0
KeepsLooks = (shape : Shape) (before after : List ℕ) → AreLater shape before after → (l : Look)
    → IsLook shape before l → IsLook shape after l

-- a sample that was heard stands in later words too
abbrev pub KeepsHeard : Type 0
KeepsHeard = (shape : Shape) (before after : List ℕ) → AreLater shape before after
    → (h : HeardSample)
    → IsHeard shape before h → IsHeard shape after h

-- a block that is there stays as it is
abbrev pub BlocksStay : Type 0
BlocksStay = (shape : Shape) (before after : List ℕ) → AreLater shape before after
    → (tick : ℕ) (block : List ℤ) → block_at shape before tick ≡ Some block
    → block_at shape after tick ≡ Some block

-- what is at a closed tick stays so: its block, or none
abbrev pub BlocksSettle : Type 0
BlocksSettle = (shape : Shape) (before after : List ℕ) → AreWords shape before
    → AreLater shape before after → (tick : ℕ) → tick < closing before
    → block_at shape after tick ≡ block_at shape before tick

-- at the start the closing number is the first tick, and no block is there
abbrev pub StartsEmpty : Type 0
StartsEmpty = (shape : Shape) → (closing (first_words shape) ≡ shape.from)
    × ((tick : ℕ) → block_at shape (first_words shape) tick ≡ None)
