-- What a new table starts from: each output's row from the first tick on that has not begun, and
-- the entries of the calls that are pending then, as they were made. (This project's own.)
use Rattle.std.specs.Prelude.{ℕ, ◌&&◌, eqb, nat_lt, Bool, List, [], ◌∷◌, ◌++◌, length, map}
use Rattle.std.specs.Prelude.{if◌then◌else◌}
use Rattle.std.specs.List.{list_any, range_with_len}
use Rattle.std.specs.Option.{unwrap_or}
use Rattle.map_entry.specs.Action.{OutputChangeParts}
use Rattle.map_entry.specs.declared.entry.Entry.{Entry}
use Rattle.map_entry.specs.Entry.{entry_of, selected}
use Rattle.map_entry.specs.Setup.{SetupParts}
use Rattle.map_entry.specs.Tick.{frame_key}
use Rattle.book_words.specs.declared.calls.JournalCall.{JournalCall}
use Rattle.book_words.specs.declared.replies.PendingItem.{PendingItem}
use Rattle.book_words.specs.Calls.{action_of, call_due, is_scheduled}
use Rattle.plain_book.specs.Journal.{call_entries, entries_of, row_from}
use Rattle.plain_book.specs.Pending.{is_pending}
use Rattle.plain_book.specs.Time.{tick_after}

-- the entries of the calls that pass a test, in order, each as it was made after the calls before
-- it
abbrev pub entries_where : SetupParts → (JournalCall → Bool) → List JournalCall → List JournalCall
    → List Entry
entries_where s keep before [] = []
entries_where s keep before (call ∷ calls) =
    (if keep call then call_entries s before (entries_of s before) call else [])
    ++ entries_where s keep (before ++ call ∷ []) calls

-- that an output goes on with its row from the first tick on that has not begun
abbrev pub carried_row : SetupParts → List JournalCall → ℕ → ℕ → Entry
carried_row s journal claims output =
    entry_of output (tick_after s claims) 0 (row_from s (entries_of s journal) output claims) 0

-- what is carried after a number of claims: the outputs' rows in order, and the entries of the
-- pending calls in the order of their ids
abbrev pub carried : SetupParts → List JournalCall → ℕ → List Entry
carried s journal claims =
    map (carried_row s journal claims) (range_with_len 0 (length s.device.outputs))
    ++ entries_where s (is_pending s journal claims) [] journal

-- ---- how a book finds them

-- whether a scheduled call counts only after a key, and its id stands among what is pending
abbrev pub is_waiting : ℕ → List PendingItem → JournalCall → Bool
is_waiting key pending call =
    is_scheduled call.request
    && (nat_lt key (call_due call) && list_any (λ item. eqb item.id call.id) pending)

-- that the output of a change has the row, from a frame of a tick on, that entries select for it
-- then
abbrev pub held_entry : List Entry → ℕ → ℕ → ℕ → OutputChangeParts → Entry
held_entry entries at tick offset change =
    entry_of change.output tick offset
    (unwrap_or (selected entries change.output (frame_key tick offset)) []) at

-- that an output goes on with the row that entries select for it, from the first tick on that has
-- not begun
abbrev pub first_entry : SetupParts → List Entry → ℕ → ℕ → Entry
first_entry s entries claims output =
    entry_of output (tick_after s claims) 0 (row_from s entries output claims) 0

-- what a book finds for a call: nothing where it is not waiting
abbrev pub waiting_entries : List Entry → List PendingItem → ℕ → JournalCall → List Entry
waiting_entries entries pending key call =
    if is_waiting key pending call
    then map (held_entry entries call.at call.tick call.offset) (action_of call.request) else []
