-- Entries of a device: laws.
use Rattle.std.proofs.Common.{◌≡◌, ℕ, Bool, true, false, List, [], ◌∷◌, ◌++◌, length, Option, Some, None, eqb, refl, subst}
use Rattle.std.specs.Prelude.{not, nat_lt, All, IsSomeAnd}
use Rattle.std.specs.List.{AllByRecursion}
use Rattle.std.specs.Option.{option_or}
use Rattle.std.proofs.lemmas.Bool.{and_parts, eqb-true}
use Rattle.std.proofs.lemmas.List.Elements.{recursion_from_All}
use Rattle.io_caps.specs.declared.device.DeviceParts.{DeviceParts}
use Rattle.map_entry.specs.declared.cell.Cell.{Cell}
use Rattle.map_entry.specs.declared.entry.Entry.{Entry}
use Rattle.map_entry.specs.Entry.{due, rules, row_where, selected_by, selected, IsEntryOk, HasRowsFrom}
use Rattle.map_entry.specs.Row.{IsRowOf, channels_of_output}
use Rattle.std.proofs.lemmas.List.Elements.{All-weaker}
use Rattle.map_entry.proofs.Selection.{selected-append}

-- ---- what the selected row has

-- of an entry here or of a later one
pub picked : (P : ℕ → List Cell → Type 0) (output : ℕ) (later : Option (List Cell)) (here : Bool) (e : Entry) (row : List Cell)
    → (later ≡ Some row → P output row) → (here ≡ true → P output e.row)
    → option_or later (row_where here e) ≡ Some row → P output row
picked P output (Some r) here e row behind at is = behind is
picked P output None true e row behind at is = let same : e.row ≡ row = cc in subst (P output) same (at refl)
picked P output None false e row behind at is = absurd cc

picked_by : (P : ℕ → List Cell → Type 0) (key : Entry → ℕ) (es : List Entry) (output at : ℕ) (row : List Cell)
    → AllByRecursion (λ e. P e.output e.row) es → selected_by key es output at ≡ Some row → P output row
picked_by P key [] output at row all is = absurd cc
picked_by P key (e ∷ es) output at row all is =
    picked P output (selected_by key es output at) (rules key output at e) e row (picked_by P key es output at row all.1)
    (λ here. subst (λ (k : ℕ). P k e.row) (eqb-true e.output output (and_parts (eqb e.output output) (not (nat_lt at (key e))) here).0) all.0) is

-- what each entry's output and row have, the output has with the selected row
pub selected_has : (P : ℕ → List Cell → Type 0) (key : Entry → ℕ) (es : List Entry) (output at : ℕ) (row : List Cell)
    → All (λ e. P e.output e.row) es → selected_by key es output at ≡ Some row → P output row
selected_has P key es output at row all is = picked_by P key es output at row (recursion_from_All (λ (e : Entry). P e.output e.row) es all) is

-- the selected row is one of the output
pub selected_row : (d : DeviceParts) (es : List Entry) (output key : ℕ) (row : List Cell) → All (IsEntryOk d) es → selected es output key ≡ Some row
    → IsRowOf d output row
selected_row d es output key row all is =
    selected_has (IsRowOf d) due es output key row
    (All-weaker (IsEntryOk d) (λ (e : Entry). IsRowOf d e.output e.row) (λ (e : Entry) (ok : IsEntryOk d e). ok.row) es all) is

-- ---- more entries

covered : (P : List Cell → Type 0) (later before : Option (List Cell)) → IsSomeAnd before P → ((row : List Cell) → later ≡ Some row → P row)
    → IsSomeAnd (option_or later before) P
covered P (Some row) before has each = each row refl
covered P None before has each = has

-- with more entries that fit, each output still has a row
pub rows_more : (d : DeviceParts) (es more : List Entry) (from : ℕ) → HasRowsFrom d es from → All (IsEntryOk d) more → HasRowsFrom d (es ++ more) from
rows_more d es more from has ok output tick there since =
    rw (selected-append due es more output tick)
    (covered (λ row. length row ≡ channels_of_output d output) (selected more output tick) (selected es output tick) (has output tick there since)
    (λ row is. (selected_row d more output tick row ok is).long))
