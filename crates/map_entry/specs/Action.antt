-- Changes of rows. (This project's own, after the activations of IS-08.)
use Rattle.std.specs.Prelude.{◌≡◌, ◌≢◌, ℕ, ◌<◌, eqb, List, length, fold, slice_get}
use Rattle.std.specs.Prelude.{slice_set, All, Option, Some, None, IfSome}
use Rattle.std.specs.List.{find, AllAdjacentBelow}
use Rattle.map_entry.specs.declared.cell.Cell.{Cell}
use Rattle.map_entry.specs.declared.change.Change.{Change}

-- what an action changes of one output, as contracts see it
pub record OutputChangeParts : Type 0 where
  pub output : ℕ
  pub changes : List Change

-- what is changed of an output
abbrev pub output_change : ℕ → List Change → OutputChangeParts
output_change output changes = record { output = output; changes = changes }

-- the number of each item is below that of the next, so no two are alike
abbrev pub AreAscending : {X : Type 0} → (X → ℕ) → List X → Type 0
AreAscending number items = AllAdjacentBelow (λ x y. number x < number y) items (length items)

-- the channels ascend
abbrev pub IsOutputChange : OutputChangeParts → Type 0
IsOutputChange c = AreAscending (λ change. change.channel) c.changes

-- the outputs ascend, and the channels of each do
pub record IsAction (action : List OutputChangeParts) : Type 0 where
  pub outputs : AreAscending (λ c. c.output) action
  pub changes : All IsOutputChange action

-- the row with each named channel set to its cell
abbrev pub with_changes : List Change → List Cell → List Cell
with_changes changes row =
    fold (λ made change. slice_set made change.channel change.cell) row changes

-- what an action changes of an output, where it names it
abbrev pub change_of : List OutputChangeParts → ℕ → Option OutputChangeParts
change_of action output = find (λ c. eqb c.output output) action

-- the row with what an action changes of its output: the row itself, where the action does not name
-- the output
abbrev pub applied_by : Option OutputChangeParts → List Cell → List Cell
applied_by None row = row
applied_by (Some change) row = with_changes change.changes row

-- the row of an output with what an action changes of it
abbrev pub applied : List Cell → List OutputChangeParts → ℕ → List Cell
applied row action output = applied_by (change_of action output) row

-- each change names one of a given number of channels
abbrev pub NamesChannels : ℕ → OutputChangeParts → Type 0
NamesChannels channels c = All (λ change. change.channel < channels) c.changes

-- what the action changes of the output names channels of a row of a given length
abbrev pub FitsRow : List OutputChangeParts → ℕ → ℕ → Type 0
FitsRow action output channels = IfSome (change_of action output) (NamesChannels channels)

-- what an action made of a row of the output: each channel that it names has its cell
abbrev pub HasNamedCells : List OutputChangeParts → ℕ → List Cell → Type 0
HasNamedCells action output made =
    IfSome (change_of action output)
    (λ c. All (λ change. slice_get made change.channel ≡ Some change.cell) c.changes)

-- and each channel that it does not name has the cell that it had
abbrev pub KeepsOtherCells : List OutputChangeParts → ℕ → List Cell → List Cell → Type 0
KeepsOtherCells action output row made =
    (channel : ℕ) → IfSome (change_of action output)
    (λ c. All (λ change. change.channel ≢ channel) c.changes)
    → slice_get made channel ≡ slice_get row channel
