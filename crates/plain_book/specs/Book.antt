-- The one-thread book: what it answers to a request at a journal and a number of claims, and the
-- call that an accepted request becomes. (After AMWA IS-08 v1.0: `/map/activations` and
-- `/map/active`; the order of the refusals is this project's own.)
use Rattle.std.specs.Prelude.{ℕ, nat_lt, not, List, [], ◌∷◌, length, map, Option, Some, None}
use Rattle.std.specs.Prelude.{option_map, if◌then◌else◌, find}
use Rattle.std.specs.List.{range_with_len}
use Rattle.std.specs.Option.{option_or, option_map_or}
use Rattle.io_caps.specs.declared.device.DeviceParts.{DeviceParts}
use Rattle.map_entry.specs.declared.change.Change.{Change}
use Rattle.map_entry.specs.declared.entry.Entry.{Entry}
use Rattle.map_entry.specs.Action.{OutputChangeParts, applied}
use Rattle.map_entry.specs.Row.{channels_of_output, row_fault}
use Rattle.map_entry.specs.Setup.{SetupParts}
use Rattle.map_entry.specs.Tick.{tick_in, frame_in}
use Rattle.book_words.specs.declared.calls.JournalCall.{JournalCall}
use Rattle.book_words.specs.declared.requests.When.{When}
use Rattle.book_words.specs.declared.requests.Request.{Request}
use Rattle.book_words.specs.declared.requests.Request.TheVariants.{Activate, Delete}
use Rattle.book_words.specs.declared.requests.Request.TheVariants.{Active as AskActive}
use Rattle.book_words.specs.declared.requests.Request.TheVariants.{Pending as AskPending}
use Rattle.book_words.specs.declared.replies.ActiveView.{ActiveView}
use Rattle.book_words.specs.declared.replies.Refusal.{Refusal}
use Rattle.book_words.specs.declared.replies.Refusal.TheVariants.{Empty, Unknown, BadChannel}
use Rattle.book_words.specs.declared.replies.Refusal.TheVariants.{Locked, Row, Time, NotPending}
use Rattle.book_words.specs.declared.replies.Reply.{Reply}
use Rattle.book_words.specs.declared.replies.Reply.TheVariants.{Activated, Scheduled, Deleted}
use Rattle.book_words.specs.declared.replies.Reply.TheVariants.{Active, Pending, Refused}
use Rattle.book_words.specs.Calls.{journal_call}
use Rattle.book_words.specs.Replies.{accepted, active_view, item_of, shown}
use Rattle.plain_book.specs.Time.{land, is_time_over}
use Rattle.plain_book.specs.Journal.{entries_of, row_from}
use Rattle.plain_book.specs.Pending.{next_id, pending_of, pending_call, is_locked, last_of}

-- ---- refusals of an activation. Each kind is told of the lowest output, and then of the lowest
-- channel: outputs and channels of an action ascend, so it is the first.

-- what is told of the first item of which something is told
abbrev pub first_some : {X Y : Type 0} → (X → Option Y) → List X → Option Y
first_some f [] = None
first_some f (x ∷ xs) = option_or (f x) (first_some f xs)

-- the action names no output
abbrev pub empty_by : List OutputChangeParts → Option Refusal
empty_by [] = Some Empty
empty_by (change ∷ action) = None

-- the output of a change is not there
abbrev pub unknown_at : DeviceParts → OutputChangeParts → Option Refusal
unknown_at d c = if nat_lt c.output (length d.outputs) then None else Some (Unknown c.output)

-- the lowest output that is not there
abbrev pub unknown_by : DeviceParts → List OutputChangeParts → Option Refusal
unknown_by d action = first_some (unknown_at d) action

-- the lowest channel of a change that is past a given number
abbrev pub bad_channel_of : ℕ → List Change → Option Change
bad_channel_of channels changes = find (λ change. not (nat_lt change.channel channels)) changes

-- a channel of a change is not one of its output
abbrev pub bad_channel_at : DeviceParts → OutputChangeParts → Option Refusal
bad_channel_at d c =
    option_map (λ change. BadChannel c.output change.channel)
    (bad_channel_of (channels_of_output d c.output) c.changes)

-- the lowest such output, with its lowest such channel
abbrev pub bad_channel_by : DeviceParts → List OutputChangeParts → Option Refusal
bad_channel_by d action = first_some (bad_channel_at d) action

-- the output of a change is locked
abbrev pub locked_at : SetupParts → List JournalCall → ℕ → OutputChangeParts → Option Refusal
locked_at s journal claims c =
    if is_locked s journal claims c.output then Some (Locked c.output) else None

-- the lowest locked output
abbrev pub locked_by : SetupParts → List JournalCall → ℕ → List OutputChangeParts → Option Refusal
locked_by s journal claims action = first_some (locked_at s journal claims) action

-- the row that the output of a change would have fails the check: its row from the first tick on
-- that has not begun, with the named channels replaced
abbrev pub bad_row_at : SetupParts → List Entry → ℕ → List OutputChangeParts → OutputChangeParts
    → Option Refusal
bad_row_at s entries claims action c =
    option_map (Row c.output)
    (row_fault s.device c.output (applied (row_from s entries c.output claims) action c.output))

-- the lowest output whose row would fail
abbrev pub bad_row_by : SetupParts → List JournalCall → ℕ → List OutputChangeParts → Option Refusal
bad_row_by s journal claims action =
    first_some (bad_row_at s (entries_of s journal) claims action) action

-- the activation would count from past the end of time
abbrev pub time_by : SetupParts → ℕ → When → Option Refusal
time_by s claims when = if is_time_over s claims when then Some Time else None

-- the first refusal that applies, in this order
unfoldable pub refusal_of : SetupParts → List JournalCall → ℕ → When → List OutputChangeParts
    → Option Refusal
refusal_of s journal claims when action =
    option_or (empty_by action)
    (option_or (unknown_by s.device action)
    (option_or (bad_channel_by s.device action)
    (option_or (locked_by s journal claims action)
    (option_or (bad_row_by s journal claims action) (time_by s claims when)))))

-- ---- replies

-- the active map at a journal and a number of claims: the rows from the first tick on that has not
-- begun
abbrev pub view_of : SetupParts → List JournalCall → ℕ → ActiveView
view_of s journal claims =
    active_view (option_map shown (last_of s journal claims))
    (map (λ output. row_from s (entries_of s journal) output claims)
    (range_with_len 0 (length s.device.outputs)))

-- the tick that an accepted activation is told, and which of its frames
abbrev pub landing_tick : SetupParts → ℕ → When → ℕ
landing_tick s claims when = tick_in (land s claims when)

-- the frame of that tick
abbrev pub landing_offset : SetupParts → ℕ → When → ℕ
landing_offset s claims when = frame_in (land s claims when)

-- the book's reply to a request at a journal and a number of claims
unfoldable pub reply_of : SetupParts → List JournalCall → ℕ → Request → Reply
reply_of s journal claims (Activate when action) =
    option_map_or Refused (refusal_of s journal claims when action)
    (accepted when (next_id journal) (landing_tick s claims when) (landing_offset s claims when))
reply_of s journal claims (Delete id) =
    option_map_or (λ call. Deleted id) (pending_call s journal claims id) (Refused (NotPending id))
reply_of s journal claims AskActive = Active (view_of s journal claims)
reply_of s journal claims AskPending = Pending (map item_of (pending_of s journal claims))

-- ---- the call that an accepted request becomes

-- the call that deletes another: it has no id, and counts from where the other would have counted
abbrev pub deletion : ℕ → ℕ → Request → JournalCall → JournalCall
deletion client claims request call =
    journal_call claims client 0 call.tick call.offset request

-- the call that a request becomes by its reply, where that accepts it
abbrev pub call_of : SetupParts → List JournalCall → ℕ → ℕ → Request → Reply → Option JournalCall
call_of s journal client claims request (Activated id tick offset) =
    Some (journal_call claims client id tick offset request)
call_of s journal client claims request (Scheduled id tick offset) =
    Some (journal_call claims client id tick offset request)
call_of s journal client claims request (Deleted id) =
    option_map (deletion client claims request) (pending_call s journal claims id)
call_of s journal client claims request (Active view) = None
call_of s journal client claims request (Pending items) = None
call_of s journal client claims request (Refused refusal) = None
