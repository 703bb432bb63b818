-- How replies stand in bytes. (This project's own.)
use Rattle.std.specs.Prelude.{◌≡◌, ℕ, ◌<◌, List, [], ◌∷◌, length, All, Option, Some, None, ◌==◌}
use Rattle.std.specs.Prelude.{if◌then◌else◌}
use Rattle.std.specs.List.{AllZip, flat_map}
use Rattle.tai_time.specs.Time.{TaiTime}
use Rattle.map_entry.specs.Action.{OutputChangeParts}
use Rattle.map_entry.specs.declared.cell.Cell.{Cell}
use Rattle.map_entry.specs.declared.fault.RowFault.{RowFault}
use Rattle.map_entry.specs.declared.fault.RowFault.TheVariants.{Input, Channel, NotRoutable, Block}
use Rattle.map_entry.specs.declared.fault.RowFault.TheVariants.{Order}
use Rattle.book_words.specs.declared.requests.When.{When}
use Rattle.book_words.specs.declared.requests.When.TheVariants.{Now, At, After}
use Rattle.book_words.specs.declared.replies.Activation.{Activation}
use Rattle.book_words.specs.declared.replies.ActiveView.{ActiveView}
use Rattle.book_words.specs.declared.replies.PendingItem.{PendingItem}
use Rattle.book_words.specs.declared.replies.Refusal.{Refusal}
use Rattle.book_words.specs.declared.replies.Refusal.TheVariants.{Empty, Unknown, BadChannel}
use Rattle.book_words.specs.declared.replies.Refusal.TheVariants.{Locked, Row, Time, NotPending}
use Rattle.book_words.specs.declared.replies.Reply.{Reply}
use Rattle.book_words.specs.declared.replies.Reply.TheVariants.{Activated, Scheduled, Deleted}
use Rattle.book_words.specs.declared.replies.Reply.TheVariants.{Active, Pending, Refused}
use Rattle.book_words.specs.Replies.{activation, active_view, pending_item}
use Rattle.exact_text.specs.Readings.{◌>>=◌, many_at}
use Rattle.exact_text.specs.Forms.{Form, byte, number, many_of, ◌▸◌, struct, checked, variant}
use Rattle.exact_text.specs.Forms.{constant, no_form, choose, tagged, counted}
use Rattle.capture_file.specs.Tags.{now_op, at_op, after_op, activated_code, scheduled_code}
use Rattle.capture_file.specs.Tags.{deleted_code, active_code, pending_code, empty_code}
use Rattle.capture_file.specs.Tags.{unknown_code, bad_channel_code, locked_code, row_code}
use Rattle.capture_file.specs.Tags.{time_code, not_pending_code, input_check, channel_check}
use Rattle.capture_file.specs.Tags.{routable_check, block_check, order_check}
use Rattle.capture_file.specs.declared.format.Format.{Format}
use Rattle.capture_file.specs.Formats.{moment, HoldsOffset}
use Rattle.capture_file.specs.Requests.{cell, action, time}

-- ---- when

-- the op byte of the activation that counts then
abbrev pub when_op : When → ℕ
when_op Now = now_op
when_op (At t) = at_op
when_op (After t) = after_op

-- what follows the op byte: the time at which
abbrev pub if_at_time : When → Option TaiTime
if_at_time (At t) = Some t
if_at_time other = None

-- the time after which
abbrev pub if_after_time : When → Option TaiTime
if_after_time (After t) = Some t
if_after_time other = None

-- an op byte of an activation, and its time
unfoldable pub when : Form When
when = tagged when_op (λ op.
    choose op now_op (constant Now) (
    choose op at_op (variant time (λ t. At t) if_at_time) (
    choose op after_op (variant time (λ t. After t) if_after_time) no_form)))

-- ---- the active map

-- an activation by its fields
abbrev pub activation_made : ℕ × (When × (ℕ × ℕ)) → Activation
activation_made (id, (w, (tick, offset))) = activation id w tick offset

-- id, when, moment
unfoldable pub shown : Format → Form Activation
shown format = struct (number 8 ▸ when ▸ moment format) (λ a. (a.id, (a.when, (a.tick, a.offset))))
    activation_made

-- 1 where there is an activation, and 0 otherwise
abbrev pub last_tag : Option Activation → ℕ
last_tag None = 0
last_tag (Some a) = 1

-- the activation itself
abbrev pub if_last : Option Activation → Option Activation
if_last a = a

-- 0, or 1 and the activation
unfoldable pub last : Format → Form (Option Activation)
last format = tagged last_tag (λ t.
    choose t 0 (constant None) (
    choose t 1 (variant (shown format) (λ a. Some a) if_last) no_form))

-- rows of a given number of cells each
abbrev pub rows_at : List ℕ → List ℕ → Option (List (List Cell) × List ℕ)
rows_at [] bytes = Some ([], bytes)
rows_at (width ∷ widths) bytes = do
  row ← many_at cell.read width bytes
  others ← rows_at widths row.1
  Some (row.0 ∷ others.0, others.1)

-- a row fits a width: it has a given number of cells, each of which fits two bytes
abbrev pub FitsWidth : ℕ → List Cell → Type 0
FitsWidth width row = (many_of width cell).Fits row

-- the rows of outputs with a given number of channels each, one after the other
unfoldable pub rows : List ℕ → Form (List (List Cell))
rows widths = record {
  text = λ rows. flat_map (flat_map cell.text) rows;
  read = rows_at widths;
  Fits = λ rows. AllZip FitsWidth widths rows;
}

-- the activation that counted last, and each output's row
unfoldable pub view : Format → List ℕ → Form ActiveView
view format widths = struct (last format ▸ rows widths) (λ v. (v.last, v.rows)) (λ p. active_view p.0 p.1)

-- ---- the pending activations

-- a pending activation by its fields
abbrev pub pending_made : ℕ × (When × ((ℕ × ℕ) × List OutputChangeParts)) → PendingItem
pending_made (id, (w, ((tick, offset), a))) = pending_item id w tick offset a

-- id, when, moment, action
unfoldable pub pending : Format → Form PendingItem
pending format = struct (number 8 ▸ when ▸ moment format ▸ action)
    (λ p. (p.id, (p.when, ((p.tick, p.offset), p.action)))) pending_made

-- ---- refusals

-- a check and the channel that fails it
abbrev pub fault_bytes : RowFault → ℕ × ℕ
fault_bytes (Input channel) = (input_check, channel)
fault_bytes (Channel channel) = (channel_check, channel)
fault_bytes (NotRoutable channel) = (routable_check, channel)
fault_bytes (Block channel) = (block_check, channel)
fault_bytes (Order channel) = (order_check, channel)

-- the fault of a check and a channel
abbrev pub fault_of : ℕ × ℕ → Option RowFault
fault_of b =
    if b.0 == input_check then Some (Input b.1)
    else (if b.0 == channel_check then Some (Channel b.1)
    else (if b.0 == routable_check then Some (NotRoutable b.1)
    else (if b.0 == block_check then Some (Block b.1)
    else (if b.0 == order_check then Some (Order b.1)
    else None))))

-- a check, 1 to 5, and a channel
unfoldable pub row_fault : Form RowFault
row_fault = checked (byte ▸ byte) fault_bytes fault_of

-- ---- replies

-- the code of a refusal
abbrev pub refusal_code : Refusal → ℕ
refusal_code Empty = empty_code
refusal_code (Unknown output) = unknown_code
refusal_code (BadChannel output channel) = bad_channel_code
refusal_code (Locked output) = locked_code
refusal_code (Row output fault) = row_code
refusal_code Time = time_code
refusal_code (NotPending id) = not_pending_code

-- the code of a reply
abbrev pub code_of : Reply → ℕ
code_of (Activated id tick offset) = activated_code
code_of (Scheduled id tick offset) = scheduled_code
code_of (Deleted id) = deleted_code
code_of (Active v) = active_code
code_of (Pending items) = pending_code
code_of (Refused r) = refusal_code r

-- what follows the code of an accepted activation at once
abbrev pub if_activated : Reply → Option (ℕ × (ℕ × ℕ))
if_activated (Activated id tick offset) = Some (id, (tick, offset))
if_activated other = None

-- what follows that of an accepted scheduled activation
abbrev pub if_scheduled : Reply → Option (ℕ × (ℕ × ℕ))
if_scheduled (Scheduled id tick offset) = Some (id, (tick, offset))
if_scheduled other = None

-- what follows that of a deletion
abbrev pub if_deleted : Reply → Option ℕ
if_deleted (Deleted id) = Some id
if_deleted other = None

-- what follows that of the active map
abbrev pub if_active : Reply → Option ActiveView
if_active (Active v) = Some v
if_active other = None

-- what follows that of the pending activations
abbrev pub if_pending : Reply → Option (List PendingItem)
if_pending (Pending items) = Some items
if_pending other = None

-- what follows that of an output that is not there
abbrev pub if_unknown : Reply → Option ℕ
if_unknown (Refused (Unknown output)) = Some output
if_unknown other = None

-- what follows that of a channel that is not there
abbrev pub if_bad_channel : Reply → Option (ℕ × ℕ)
if_bad_channel (Refused (BadChannel output channel)) = Some (output, channel)
if_bad_channel other = None

-- what follows that of a locked output
abbrev pub if_locked : Reply → Option ℕ
if_locked (Refused (Locked output)) = Some output
if_locked other = None

-- what follows that of a row that fails the check
abbrev pub if_row : Reply → Option (ℕ × RowFault)
if_row (Refused (Row output fault)) = Some (output, fault)
if_row other = None

-- what follows that of an id that is not pending
abbrev pub if_not_pending : Reply → Option ℕ
if_not_pending (Refused (NotPending id)) = Some id
if_not_pending other = None

-- the refusals, by their codes
unfoldable pub refusal : ℕ → Form Reply
refusal code =
    choose code empty_code (constant (Refused Empty)) (
    choose code unknown_code (variant byte (λ output. Refused (Unknown output)) if_unknown) (
    choose code bad_channel_code
    (variant (byte ▸ byte) (λ p. Refused (BadChannel p.0 p.1)) if_bad_channel) (
    choose code locked_code (variant byte (λ output. Refused (Locked output)) if_locked) (
    choose code row_code (variant (byte ▸ row_fault) (λ p. Refused (Row p.0 p.1)) if_row) (
    choose code time_code (constant (Refused Time)) (
    choose code not_pending_code (variant (number 8) (λ id. Refused (NotPending id)) if_not_pending)
    no_form))))))

-- A code, and then: id and moment; an id; the active map, with a given number of channels of each
-- output; the number of pending activations and these; what a refusal names.
unfoldable pub reply : Format → List ℕ → Form Reply
reply format widths = tagged code_of (λ code.
    choose code activated_code
    (variant (number 8 ▸ moment format) (λ p. Activated p.0 p.1.0 p.1.1) if_activated) (
    choose code scheduled_code
    (variant (number 8 ▸ moment format) (λ p. Scheduled p.0 p.1.0 p.1.1) if_scheduled) (
    choose code deleted_code (variant (number 8) (λ id. Deleted id) if_deleted) (
    choose code active_code (variant (view format widths) (λ v. Active v) if_active) (
    choose code pending_code (variant (counted (pending format)) (λ items. Pending items) if_pending) (
    refusal code))))))

-- ---- what can be written

-- the number of pending activations is that of one byte, and each fits its fields
abbrev pub HoldsPending : Format → List PendingItem → Type 0
HoldsPending format items = (length items < 256) × All (pending format).Fits items

-- a format can hold the frame from which the activation counts that counted last
abbrev pub HoldsLast : Format → Option Activation → Type 0
HoldsLast format None = Unit {0}
HoldsLast format (Some a) = HoldsOffset format a.offset

-- a format can hold the frames from which the activations of a reply count, and the pending ones
-- fit their fields; other replies can always be written
abbrev pub HoldsReply : Format → Reply → Type 0
HoldsReply format (Activated id tick offset) = HoldsOffset format offset
HoldsReply format (Scheduled id tick offset) = HoldsOffset format offset
HoldsReply format (Deleted id) = Unit {0}
HoldsReply format (Active v) = HoldsLast format v.last
HoldsReply format (Pending items) = HoldsPending format items
HoldsReply format (Refused r) = Unit {0}
