-- How requests stand in bytes. (This project's own.)
use Rattle.std.specs.Prelude.{ℕ, ◌+◌, nat_lt, Bool, true, ◌&&◌, not, List, [], ◌∷◌, map, Option}
use Rattle.std.specs.Prelude.{Some, None, ◌==◌, if◌then◌else◌}
use Rattle.std.specs.List.{list_all}
use Rattle.tai_time.specs.Time.{TaiTime, secs_limit, second}
use Rattle.map_entry.specs.Action.{OutputChangeParts, output_change as changes_of}
use Rattle.map_entry.specs.declared.change.Change.{Change}
use Rattle.map_entry.specs.declared.cell.Cell.{Cell}
use Rattle.map_entry.specs.declared.cell.Cell.TheVariants.{Unrouted, From}
use Rattle.book_words.specs.declared.requests.When.TheVariants.{Now, At, After}
use Rattle.book_words.specs.declared.requests.Request.{Request}
use Rattle.book_words.specs.declared.requests.Request.TheVariants.{Activate, Delete, Active}
use Rattle.book_words.specs.declared.requests.Request.TheVariants.{Pending}
use Rattle.exact_text.specs.Forms.{Form, byte, number, ◌▸◌, struct, checked, passing, tested}
use Rattle.exact_text.specs.Forms.{variant, constant, no_form, choose, tagged, counted}
use Rattle.capture_file.specs.Tags.{unrouted_input, now_op, at_op, after_op, delete_op, active_op}
use Rattle.capture_file.specs.Tags.{pending_op}

-- ---- cells

-- the two bytes of a cell: input and channel; an unrouted one has the input 255 and the channel 0
abbrev pub cell_bytes : Cell → ℕ × ℕ
cell_bytes Unrouted = (unrouted_input, 0)
cell_bytes (From input channel) = (input, channel)

-- The cell of two bytes. With the input 255 the channel is 0, and with another one there is no
-- cell.
abbrev pub cell_of : ℕ × ℕ → Option Cell
cell_of b = if b.0 == unrouted_input then tested (b.1 == 0) Unrouted else Some (From b.0 b.1)

-- a cell in two bytes
unfoldable pub cell : Form Cell
cell = checked (byte ▸ byte) cell_bytes cell_of

-- ---- actions

-- a channel and its cell
unfoldable pub change : Form Change
change = struct (byte ▸ cell) (λ c. (c.channel, c.cell)) (λ p. record { channel = p.0; cell = p.1 })

-- each number is above the one before, and the first is no less than this one
abbrev pub rises_from : ℕ → List ℕ → Bool
rises_from least [] = true
rises_from least (number ∷ others) = not (nat_lt number least) && rises_from (number + 1) others

-- the test that numbers ascend
abbrev pub rises : List ℕ → Bool
rises numbers = rises_from 0 numbers

-- the test that the channels ascend
abbrev pub channels_rise : OutputChangeParts → Bool
channels_rise c = rises (map (λ change. change.channel) c.changes)

-- the test that the outputs ascend, and the channels of each do
abbrev pub is_ordered : List OutputChangeParts → Bool
is_ordered action = rises (map (λ c. c.output) action) && list_all channels_rise action

-- what is changed of an output, by its fields
abbrev pub named : ℕ × List Change → OutputChangeParts
named p = changes_of p.0 p.1

-- an output, the number of channels, and the channels with their cells, which ascend
unfoldable pub output_change : Form OutputChangeParts
output_change = passing (byte ▸ counted change) (λ o. (o.output, o.changes))
    (λ p. channels_rise (named p)) named

-- the number of outputs, and the outputs with their channels, all of which ascend
unfoldable pub action : Form (List OutputChangeParts)
action = passing (counted output_change) (λ a. a) is_ordered (λ a. a)

-- ---- times

-- the test that seconds and nanoseconds are those of a time
abbrev pub is_time : ℕ × ℕ → Bool
is_time p = nat_lt p.0 secs_limit && nat_lt p.1 second

-- the time of seconds and nanoseconds
abbrev pub time_made : ℕ × ℕ → TaiTime
time_made p = record { secs = p.0; nanos = p.1 }

-- seconds, and nanoseconds
unfoldable pub time : Form TaiTime
time = passing (number 8 ▸ number 4) (λ t. (t.secs, t.nanos)) is_time time_made

-- ---- requests

-- the op byte of a request
abbrev pub op_of : Request → ℕ
op_of (Activate Now a) = now_op
op_of (Activate (At t) a) = at_op
op_of (Activate (After t) a) = after_op
op_of (Delete id) = delete_op
op_of Active = active_op
op_of Pending = pending_op

-- what follows the op byte of an activation at once
abbrev pub if_now : Request → Option (List OutputChangeParts)
if_now (Activate Now a) = Some a
if_now other = None

-- what follows that of an activation at a time
abbrev pub if_at : Request → Option (TaiTime × List OutputChangeParts)
if_at (Activate (At t) a) = Some (t, a)
if_at other = None

-- what follows that of an activation after a time
abbrev pub if_after : Request → Option (TaiTime × List OutputChangeParts)
if_after (Activate (After t) a) = Some (t, a)
if_after other = None

-- what follows that of a deletion
abbrev pub if_delete : Request → Option ℕ
if_delete (Delete id) = Some id
if_delete other = None

-- the op byte, and then: an action; a time and an action; an id; nothing
unfoldable pub request : Form Request
request = tagged op_of (λ op.
    choose op now_op (variant action (λ a. Activate Now a) if_now) (
    choose op at_op (variant (time ▸ action) (λ p. Activate (At p.0) p.1) if_at) (
    choose op after_op (variant (time ▸ action) (λ p. Activate (After p.0) p.1) if_after) (
    choose op delete_op (variant (number 8) (λ id. Delete id) if_delete) (
    choose op active_op (constant Active) (
    choose op pending_op (constant Pending) no_form))))))
