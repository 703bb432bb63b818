-- That the rule holds at the start, and that each kind of step keeps it. (This project's own.)
use Rattle.std.specs.Prelude.{ℕ, ◌≡◌, ◌^◌, ◌<◌, ◌≤◌, true, []}
use mathlib.Core.Option.{none}
use Rattle.atomic_table.specs.Table.{Allows, Joins, Splits, opening, step}
use Rattle.input_rule.specs.declared.view.Shape.{Shape}
use Rattle.input_rule.specs.declared.view.View.{View}
use Rattle.input_rule.specs.Words.{AreWords, HasTick, IsAbsent, block_len, closing, first_words}
use Rattle.input_rule.specs.Words.{presence, sample_word}
use Rattle.input_rule.specs.Views.{HasSeen, feeder, reader, spent, taken_in}
use Rattle.input_rule.specs.Rule.{Keeps}
use Rattle.input_rule.specs.Plays.{Sitting, hears as then_hears, learns as then_learns}
use Rattle.input_rule.specs.Plays.{looks as then_looks, sees as then_sees, writes as then_writes}

-- ---- the start, and the feeder's stores

-- the first words of a table keep the rule, with its feeder
abbrev pub Starts : Type 0
Starts = (shape : Shape)
    → Keeps shape (opening (first_words shape) [] (feeder shape (first_words shape)))

-- the feeder of a table may store a number in a word, which is then known to it
abbrev pub MayWrite : Sitting → ℕ → ℕ → Type 0
MayWrite m word x = (shape : Shape) (slots id : ℕ)
    → Allows (Keeps shape) slots id m word (λ _. x)
    (λ _. then_writes (step slots word x 0 none) m x)

-- a seat is a feeder's, with such words
pub record IsFeeder (m : Sitting) : Type 0 where
  pub live : m.0.live ≡ true
  pub feeds : m.0.feeds ≡ true
  pub words : AreWords m.0.shape m.0.words

-- a sample of a block that is not there
abbrev pub StoresSample : Type 0
StoresSample = (m : Sitting) (tick place x : ℕ) → IsFeeder m → HasTick m.0.shape tick
    → place < block_len m.0.shape → x < 2 ^ 32 → IsAbsent m.0.shape m.0.words tick
    → MayWrite m (sample_word m.0.shape tick place) x

-- the presence of a tick that is not closed
abbrev pub StoresPresence : Type 0
StoresPresence = (m : Sitting) (tick : ℕ) → IsFeeder m → HasTick m.0.shape tick
    → closing m.0.words ≤ tick → MayWrite m (presence m.0.shape tick) 1

-- a closing number that is no lower
abbrev pub StoresClosing : Type 0
StoresClosing = (m : Sitting) (upto : ℕ) → IsFeeder m → closing m.0.words ≤ upto → MayWrite m 0 upto

-- ---- a reader's loads

-- a pass may load the closing number, and sees it
abbrev pub Sees : Type 0
Sees = (shape : Shape) (slots id : ℕ) (m : Sitting) → m.0.live ≡ true
    → Allows (Keeps shape) slots id m 0 (λ found. found) (then_sees (step slots 0 0 0 none) m)

-- a pass may load the presence of a tick, and has looked at the tick
abbrev pub Looks : Type 0
Looks = (shape : Shape) (slots id : ℕ) (m : Sitting) (word tick : ℕ) → m.0.live ≡ true
    → HasTick m.0.shape tick → word ≡ presence m.0.shape tick
    → Allows (Keeps shape) slots id m word
    (λ found. found) (then_looks (step slots word 0 0 none) m)

-- of a block that the pass has seen
abbrev pub Hears : Type 0
Hears = (shape : Shape) (slots id : ℕ) (m : Sitting) (word tick place : ℕ) → m.0.live ≡ true
    → HasTick m.0.shape tick → place < block_len m.0.shape → word ≡ sample_word m.0.shape tick place
    → HasSeen m.0 tick
    → Allows (Keeps shape) slots id m word
    (λ found. found) (then_hears (step slots word 0 0 none) m)

-- ---- passes

-- a pass may make a reader's pass
abbrev pub MakesReader : Type 0
MakesReader = (shape : Shape) (id : ℕ) (v : View) → v.live ≡ true
    → Splits (Keeps shape) id v v (reader v)

-- a pass may take another in, with all that it knows
abbrev pub TakesIn : Type 0
TakesIn = (shape : Shape) (id : ℕ) (v : View) (other : ℕ) (w : View)
    → Joins (Keeps shape) id v other w (taken_in v w) spent

-- a feeder may load a word, and learns that what it took in is true of its own words
abbrev pub Learns : Type 0
Learns = (shape : Shape) (slots id : ℕ) (m : Sitting) (word : ℕ) → m.0.live ≡ true
    → m.0.feeds ≡ true
    → Allows (Keeps shape) slots id m word
    (λ found. found) (then_learns (step slots word 0 0 none) m)
