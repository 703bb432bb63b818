-- The places of a table that calls take: each map entry takes one. (This project's own.)
use Rattle.std.specs.Prelude.{◌≡◌, ℕ, ◌*◌, ◌≤◌, eqb, List, [], ◌∷◌, ◌++◌, length, map, sum_by}
use Rattle.std.specs.List.{count_by}
use Rattle.map_entry.specs.Action.{OutputChangeParts}
use Rattle.book_words.specs.declared.replies.PendingItem.{PendingItem}
use Rattle.book_words.specs.declared.requests.When.{When}
use Rattle.book_words.specs.declared.requests.When.TheVariants.{Now, At, After}
use Rattle.book_words.specs.declared.requests.Request.{Request}
use Rattle.book_words.specs.declared.requests.Request.TheVariants.{Activate, Delete, Active}
use Rattle.book_words.specs.declared.requests.Request.TheVariants.{Pending}

-- the places of each output that an activation names: one at once, and two of a scheduled one,
-- since it may be deleted
abbrev pub places_each : When → ℕ
places_each Now = 1
places_each (At time) = 2
places_each (After time) = 2

-- the places of a request: a deletion has those of the activation that it deletes
abbrev pub places_of : Request → ℕ
places_of (Activate when action) = places_each when * length action
places_of (Delete id) = 0
places_of Active = 0
places_of Pending = 0

-- the places that are kept for what may be deleted: one for each output that a pending activation
-- names
abbrev pub places_kept : List PendingItem → ℕ
places_kept items = sum_by (λ item. length item.action) items

-- the outputs that pending activations name, one after the other
abbrev pub outputs_held : List PendingItem → List ℕ
outputs_held [] = []
outputs_held (item ∷ items) = map (λ change. change.output) item.action ++ outputs_held items

-- how often a number stands in a list
abbrev pub times_in : ℕ → List ℕ → ℕ
times_in x xs = count_by (λ y. eqb y x) xs

-- no output is named twice by what is pending
abbrev pub IsHeldOnce : List PendingItem → Type 0
IsHeldOnce items = (output : ℕ) → times_in output (outputs_held items) ≤ 1
