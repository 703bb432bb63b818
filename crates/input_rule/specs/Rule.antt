-- The rule of one input's table: the words are those that its feeder knows, and what a reader has
-- seen stays so. (This project's own.)
use Rattle.std.specs.Prelude.{ℕ, ◌≡◌, ◌<◌, ◌≤◌, true, false, List}
use Rattle.std.specs.List.{All}
use mathlib.Core.Option.{some}
use lib.ListN.{get_elem?}
use Rattle.atomic_table.specs.Table.{State}
use Rattle.input_rule.specs.declared.view.Shape.{Shape}
use Rattle.input_rule.specs.declared.view.View.{View}
use Rattle.input_rule.specs.declared.view.Look.{Look}
use Rattle.input_rule.specs.declared.view.HeardSample.{HeardSample}
use Rattle.input_rule.specs.Words.{AreWords, HasTick, IsPresent, IsAbsent}
use Rattle.input_rule.specs.Words.{block_len, closing, sample_at}

-- a look stays true: a block that was seen is there, and one that was missed after its tick was
-- closed never comes
pub record IsLook (shape : Shape) (words : List ℕ) (l : Look) : Type 0 where
  pub input : l.input ≡ shape.input
  pub inside : HasTick shape l.tick
  pub seen : l.present ≡ true → IsPresent shape words l.tick
  pub missed : l.present ≡ false → l.tick < l.closed → IsAbsent shape words l.tick
  pub closed : l.closed ≤ closing words

-- a sample that was read is that of a block that is there
pub record IsHeard (shape : Shape) (words : List ℕ) (h : HeardSample) : Type 0 where
  pub input : h.input ≡ shape.input
  pub inside : HasTick shape h.tick
  pub below : h.place < block_len shape
  pub there : IsPresent shape words h.tick
  pub value : sample_at shape words h.tick h.place ≡ h.value

-- what a seat knows is so: one seat feeds, and it knows all words; looks and samples are those of
-- the words, and the closing numbers seen are not above the one that stands
pub record Fits (shape : Shape) (words : List ℕ) (keeper seat : ℕ) (v : View) : Type 0 where
  pub bound : v.live ≡ true → v.shape ≡ shape
  pub feeder : v.feeds ≡ true → (seat ≡ keeper) × (v.words ≡ words)
  pub closings : All (λ number. number ≤ closing words) v.closings
  pub looks : All (IsLook shape words) v.looks
  pub heard : All (IsHeard shape words) v.heard

-- what the rule says of a table: these are its words, and each seat knows of them what is so
pub record Holds (shape : Shape) (s : State ℕ View) (words : List ℕ) (keeper : ℕ) : Type 0 where
  pub words_are : s.words ≡ words
  pub shown : AreWords shape words
  pub seats : (seat : ℕ) (v : View) → get_elem? s.views seat ≡ some v
      → Fits shape words keeper seat v

-- the rule, of a shape and of a table's words and views
abbrev pub Keeps : Shape → State ℕ View → Type 0
Keeps shape s = (words : List ℕ) × (keeper : ℕ) × Holds shape s words keeper
