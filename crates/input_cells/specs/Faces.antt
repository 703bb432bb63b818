-- What contracts see of an input table and of its passes. (This project's own.)
use Rattle.std.specs.Prelude.{ℕ, ◌≡◌, ◌<◌, ◌≤◌, ◌^◌, zero, suc, Bool, List, [], ◌∷◌}
use Rattle.std.specs.Prelude.{◌++◌, length, map, slice_get, slice_index_or, Option, Some}
use Rattle.std.specs.Prelude.{IfSome}
use Rattle.std.specs.List.{All, AllZip}
use Rattle.atomic_table.specs.Seated.{TableId}
use Rattle.input_rule.specs.declared.view.Shape.{Shape}
use Rattle.input_rule.specs.declared.view.View.{View}
use Rattle.input_rule.specs.declared.view.Look.{Look}
use Rattle.input_rule.specs.declared.view.HeardSample.{HeardSample}
use Rattle.input_rule.specs.Words.{block_len, first_words, words_len}
use Rattle.input_rule.specs.Views.{feeder, newcomer}

-- the table of one input, or of the pace: which one it is, and how its words lie
pub record InputFace : Type 0 where
  pub id : TableId
  pub shape : Shape

-- a pass at one such table: which table it is of, and what it knows
pub record SeatFace : Type 0 where
  pub id : TableId
  pub view : View

-- the table of a pass
abbrev pub face_of : SeatFace → InputFace
face_of pass = record { id = pass.id; shape = pass.view.shape }

-- ---- a table of all inputs, by their numbers, and last of the pace

-- the pass is that of an input, or of the pace, of the table
abbrev pub IsFeedOf : List InputFace → SeatFace → Type 0
IsFeedOf table pass = slice_get table pass.view.shape.input ≡ Some (face_of pass)

-- the pass is of the table: it has a seat at each input, and at the pace
abbrev pub IsReadOf : List InputFace → List SeatFace → Type 0
IsReadOf table pass = map face_of pass ≡ table

-- the number is that of an input; the pace's is the next one
abbrev pub HasInput : List InputFace → ℕ → Type 0
HasInput table input = suc input < length table

-- what holds of how the words of an input's table lie
abbrev pub HasShape : List InputFace → ℕ → (Shape → Type 0) → Type 0
HasShape [] input P = ⊥
HasShape (t ∷ ts) zero P = P t.shape
HasShape (t ∷ ts) (suc input) P = HasShape ts input P

-- ---- a feeder

-- the pass is an input's: the pace has no channels
abbrev pub FeedsInput : SeatFace → Type 0
FeedsInput pass = 0 < pass.view.shape.channels

-- the feeder's pass of a table to which nothing was fed yet
abbrev pub unfed : InputFace → SeatFace
unfed t = record { id = t.id; view = feeder t.shape (first_words t.shape) }

-- nothing was set or closed yet
abbrev pub IsUnfed : SeatFace → Type 0
IsUnfed pass = pass ≡ unfed (face_of pass)

-- of feeders' passes the tables and the words stayed
abbrev pub SameWords : List SeatFace → List SeatFace → Type 0
SameWords before after =
    (map face_of after ≡ map face_of before)
    × (map (λ p. p.view.words) after ≡ map (λ p. p.view.words) before)

-- ---- a reader

-- what a pass knows of an input, by its number
abbrev pub HasView : List SeatFace → ℕ → (View → Type 0) → Type 0
HasView [] input P = ⊥
HasView (p ∷ ps) zero P = P p.view
HasView (p ∷ ps) (suc input) P = HasView ps input P

-- what a pass knows of one input changes
abbrev pub changed : (View → View) → ℕ → List SeatFace → List SeatFace
changed f input [] = []
changed f zero (p ∷ ps) = record p { view = f p.view } ∷ ps
changed f (suc input) (p ∷ ps) = p ∷ changed f input ps

-- a list that goes on
abbrev pub GoesOn : {A : Type 0} → List A → List A → Type 0
GoesOn {A} before after = (more : List A) × (after ≡ before ++ more)

-- the looks that are kept of an input are looks at that input
abbrev pub HasOwnLooks : View → Type 0
HasOwnLooks v = All (λ l. l.input ≡ v.shape.input) v.looks

-- so it is at each input
abbrev pub AreOwnLooks : List SeatFace → Type 0
AreOwnLooks pass = All (λ p. HasOwnLooks p.view) pass

-- what a pass knows of one input only grew, by looks at that input
pub record GrowsAt (before after : SeatFace) : Type 0 where
  pub face : face_of after ≡ face_of before
  pub closings : GoesOn before.view.closings after.view.closings
  pub looks : GoesOn before.view.looks after.view.looks
  pub heard : GoesOn before.view.heard after.view.heard
  pub own : HasOwnLooks before.view → HasOwnLooks after.view

-- what a pass knows only grew
abbrev pub Grows : List SeatFace → List SeatFace → Type 0
Grows before after = AllZip GrowsAt before after

-- of one input a pass read samples, and did nothing else
abbrev pub HearsAt : SeatFace → SeatFace → Type 0
HearsAt before after = (more : List HeardSample)
    × (after ≡ record before { view = record before.view { heard = before.view.heard ++ more } })

-- a pass read samples, and did nothing else
abbrev pub OnlyHears : List SeatFace → List SeatFace → Type 0
OnlyHears before after = AllZip HearsAt before after

-- all looks of a pass, input by input
abbrev pub looks_of : List SeatFace → List Look
looks_of [] = []
looks_of (p ∷ ps) = p.view.looks ++ looks_of ps

-- all samples that a pass read, input by input
abbrev pub heard_of : List SeatFace → List HeardSample
heard_of [] = []
heard_of (p ∷ ps) = p.view.heard ++ heard_of ps

-- a reader's seat that has seen nothing
abbrev pub unread : InputFace → SeatFace
unread t = record { id = t.id; view = newcomer t.shape }

-- ---- what makes the passes

-- of which table, whether each feeder's pass was given, and how many readers' passes there are and
-- were made
pub record FeedsFace : Type 0 where
  pub table : List InputFace
  pub given : List Bool
  pub most : ℕ
  pub made : ℕ

-- ---- what the types keep

-- a table of one input, with the samples of a block counted
pub record IsInput (key : Shape) (id : TableId) (shape : Shape) (block : ℕ) : Type 0 where
  pub key_is : key ≡ shape
  pub words_are : id.words ≡ words_len shape
  pub block_is : block ≡ block_len shape
  pub few : words_len shape < 2 ^ 63
  pub short : block_len shape < 2 ^ 63

-- each table has its place for its number
abbrev pub AreNumbered : List InputFace → Type 0
AreNumbered table =
    (input : ℕ) (d : InputFace) → input < length table
    → (slice_index_or table input d).shape.input ≡ input

-- a feeder's pass that was not given yet is unfed
abbrev pub IsKept : InputFace → Option SeatFace → Type 0
IsKept t pass = IfSome pass (λ p. p ≡ unfed t)

-- what makes the passes: the feeders' that were not given yet, the readers' that were not made yet,
-- and one that tells of the table
pub record AreFeeds (table : List InputFace) (feeders : List (Option SeatFace))
    (readers : List (List SeatFace)) (spare : List SeatFace) (most : ℕ) : Type 0 where
  pub spare_is : spare ≡ map unread table
  pub feeders_are : AllZip IsKept table feeders
  pub readers_are : All (λ r. r ≡ map unread table) readers
  pub few : length readers ≤ most
  pub numbered : AreNumbered table
