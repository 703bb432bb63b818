-- The records of calls and replies are short.
use Rattle.std.proofs.Common.{◌≡◌, ℕ, ◌+◌, ◌*◌, ◌^◌, ◌<◌, ◌≤◌, List, [], ◌∷◌, ◌++◌, length, map}
use Rattle.std.proofs.Common.{Option, Some, None, refl, ap, arith, inl, inr, ◌⊎◌}
use Rattle.std.specs.List.{AllByRecursion, AllZip, flat_map}
use Rattle.std.proofs.lemmas.List.{length-append, length-map}
use Rattle.std.proofs.lemmas.List.Concat.{flat_map-cons}
use Rattle.std.proofs.lemmas.List.Elements.{recursion_from_All, All-from_recursion}
use Rattle.io_caps.specs.Device.{IsDevice}
use Rattle.io_caps.specs.Port.{AreChannels}
use Rattle.io_caps.specs.declared.device.DeviceParts.{DeviceParts}
use Rattle.io_caps.specs.declared.port.Output.{Output}
use Rattle.map_entry.specs.declared.cell.Cell.{Cell}
use Rattle.io_caps.specs.declared.limits.TheConstants.{CLIENTS, MOST_OUTPUTS}
use Rattle.book_words.specs.declared.calls.JournalCall.{JournalCall}
use Rattle.book_words.specs.declared.requests.Stamp.{Stamp}
use Rattle.book_words.specs.History.{reply_item}
use Rattle.book_words.specs.declared.history.ReplyItem.{ReplyItem}
use Rattle.book_words.specs.declared.requests.When.TheVariants.{Now, At, After}
use Rattle.book_words.specs.declared.requests.Request.TheVariants.{Activate, Delete}
use Rattle.book_words.specs.declared.requests.Request.TheVariants.{Active as AskActive}
use Rattle.book_words.specs.declared.requests.Request.TheVariants.{Pending as AskPending}
use Rattle.book_words.specs.declared.replies.Refusal.TheVariants.{Empty, Unknown, BadChannel}
use Rattle.book_words.specs.declared.replies.Refusal.TheVariants.{Locked, Row, Time, NotPending}
use Rattle.book_words.specs.declared.history.Said.{Said}
use Rattle.book_words.specs.declared.history.Said.TheVariants.{Plain, Http}
use Rattle.book_words.specs.declared.replies.Activation.{Activation}
use Rattle.book_words.specs.declared.replies.PendingItem.{PendingItem}
use Rattle.book_words.specs.declared.replies.Reply.{Reply}
use Rattle.book_words.specs.declared.replies.Reply.TheVariants.{Activated, Scheduled, Deleted}
use Rattle.book_words.specs.declared.replies.Reply.TheVariants.{Active, Pending, Refused}
use Rattle.exact_text.specs.Forms.{number, number_text, counted, ◌▸◌}
use Rattle.exact_text.proofs.FormLengths.{IsShort, length-number, shorter, byte_short, number_short}
use Rattle.exact_text.proofs.FormLengths.{then_short, struct_short, checked_short, counted_short}
use Rattle.exact_text.proofs.FormLengths.{variant_short, constant_short, no_form_short}
use Rattle.exact_text.proofs.FormLengths.{choose_short, tagged_short}
use Rattle.capture_file.specs.declared.format.Format.{Format}
use Rattle.capture_file.specs.Formats.{moment}
use Rattle.capture_file.specs.Tags.{now_op, at_op, after_op, delete_op, active_op, pending_op}
use Rattle.capture_file.specs.Tags.{activated_code, scheduled_code, deleted_code, active_code}
use Rattle.capture_file.specs.Tags.{pending_code, empty_code, unknown_code, bad_channel_code}
use Rattle.capture_file.specs.Tags.{locked_code, row_code, time_code, not_pending_code}
use Rattle.capture_file.specs.Requests.{cell, change, output_change, action, time, request}
use Rattle.capture_file.specs.Requests.{if_now, if_at, if_after, if_delete}
use Rattle.capture_file.specs.Replies.{when, if_at_time, if_after_time, shown, if_last, last}
use Rattle.capture_file.specs.Replies.{if_activated, if_scheduled, if_deleted, if_active}
use Rattle.capture_file.specs.Replies.{if_pending, if_unknown, if_bad_channel, if_locked, if_row}
use Rattle.capture_file.specs.Replies.{if_not_pending, FitsWidth, rows, view, pending, row_fault}
use Rattle.capture_file.specs.Replies.{refusal, reply as plain_reply, HoldsPending, HoldsLast}
use Rattle.capture_file.specs.Replies.{HoldsReply}
use Rattle.capture_file.specs.Parts.{HoldsSaid}
use Rattle.capture_file.specs.Result.{call_made, call, said, reply, widths_of, FitsCall, FitsReply}
use Rattle.capture_file.proofs.FormatLaws.{moment_holds, moment_short}

pub cell_short : IsShort cell 2
unfolding cell
cell_short = checked_short _ _ (then_short byte_short byte_short)

change_short : IsShort change 3
unfolding change
change_short = struct_short _ _ (then_short byte_short cell_short)

output_change_short : IsShort output_change 767
unfolding output_change
output_change_short = checked_short _ _ (then_short byte_short (counted_short change_short))

-- an action of 255 outputs with 255 channels each
action_short : IsShort action 195586
unfolding action
action_short = checked_short _ _ (counted_short output_change_short)

time_short : IsShort time 12
unfolding time
time_short = checked_short _ _ (then_short (number_short 8) (number_short 4))

timed_short : IsShort (time ▸ action) 195598
timed_short = then_short time_short action_short

request_short : IsShort request 195599
unfolding request
request_short = tagged_short (λ op.
    choose_short op now_op
    (variant_short (λ a. Activate Now a) if_now (shorter 195598 (omega arith) action_short)) (
    choose_short op at_op (variant_short (λ p. Activate (At p.0) p.1) if_at timed_short) (
    choose_short op after_op (variant_short (λ p. Activate (After p.0) p.1) if_after timed_short) (
    choose_short op delete_op
    (variant_short (λ id. Delete id) if_delete (shorter 195598 (omega arith) (number_short 8))) (
    choose_short op active_op (constant_short AskActive) (
    choose_short op pending_op (constant_short AskPending) no_form_short))))))

-- a call's record is short
pub call_short : (format : Format) (c : JournalCall) → FitsCall format c
    → length ((call format).text c) < 2 ^ 32
unfolding call
call_short format c fits =
    let s = struct_short (λ c. (c.at, (c.client, (c.id, ((c.tick, c.offset), c.request)))))
    call_made (then_short (number_short 8)
    (then_short byte_short
    (then_short (number_short 8) (then_short (moment_short format) request_short)))) in
    let short = s.most c fits.fits in
    omega (arith, short)

-- ---- replies

when_short : IsShort when 13
unfolding when
when_short = tagged_short (λ op.
    choose_short op now_op (constant_short Now) (
    choose_short op at_op (variant_short (λ t. At t) if_at_time time_short) (
    choose_short op after_op (variant_short (λ t. After t) if_after_time time_short)
    no_form_short)))

shown_short : (format : Format) → IsShort (shown format) 31
unfolding shown
shown_short format = struct_short _ _
    (then_short (number_short 8) (then_short when_short (moment_short format)))

last_short : (format : Format) → IsShort (last format) 32
unfolding last
last_short format = tagged_short
    (λ t. choose_short t 0 (constant_short None)
    (choose_short t 1 (variant_short (λ a. Some a) if_last (shown_short format)) no_form_short))

cells_short : (row : List Cell) → AllByRecursion cell.Fits row
    → length (flat_map cell.text row) ≤ length row * 2
cells_short [] fits = omega arith
cells_short (c ∷ row) fits =
    let s = cell_short.most c fits.0 in
    let others = cells_short row fits.1 in
    let e = ap length (flat_map-cons cell.text c row) in
    omega (arith, s, others, e, length-append (cell.text c) (flat_map cell.text row))

-- rows of at most 64 cells each
rows_short : (widths : List ℕ) (x : List (List Cell)) → AllByRecursion (λ w. w ≤ 64) widths
    → AllZip FitsWidth widths x → length (flat_map (flat_map cell.text) x) ≤ length widths * 128
rows_short [] [] few fits = omega arith
rows_short [] (row ∷ x) few fits = absurd fits
rows_short (width ∷ widths) [] few fits = absurd fits
rows_short (width ∷ widths) (row ∷ x) few fits =
    let s = cells_short row fits.0.1 in
    let others = rows_short widths x few.1 fits.1 in
    let e = ap length (flat_map-cons (flat_map cell.text) row x) in
    omega (
      arith,
      s,
      others,
      e,
      length-append (flat_map cell.text row)
          (flat_map (flat_map cell.text) x),
      fits.0.0,
      few.0,
    )

widths_few : (outputs : List Output) → AllByRecursion (λ o. AreChannels o.labels) outputs
    → AllByRecursion (λ w. w ≤ 64) (map (λ o. length o.labels) outputs)
widths_few [] are = tt
widths_few (o ∷ outputs) are = (omega (arith, are.0.1), widths_few outputs are.1)

view_short : (format : Format) (d : DeviceParts) → IsDevice d
    → IsShort (view format (widths_of d)) (32 + MOST_OUTPUTS * 128)
unfolding view rows
view_short format d is = record {
  most = λ v fits.
      let s = (last_short format).most v.last fits.0 in
      let few = widths_few d.outputs
      (recursion_from_All (λ o. AreChannels o.labels) d.outputs is.streams.outputs) in
      let r = rows_short (widths_of d) v.rows few fits.1 in
      let n : length (widths_of d) ≡ length d.outputs =
      length-map d.outputs (λ o. length o.labels) in
      omega (
        arith,
        s,
        r,
        n,
        is.bounds.few_outputs,
        length-append ((last format).text v.last)
            (flat_map (flat_map cell.text) v.rows),
      );
}

pending_short : (format : Format) → IsShort (pending format) 195617
unfolding pending
pending_short format = struct_short _ _
    (then_short (number_short 8)
    (then_short when_short (then_short (moment_short format) action_short)))

row_fault_short : IsShort row_fault 2
unfolding row_fault
row_fault_short = checked_short _ _ (then_short byte_short byte_short)

refusal_short : (code : ℕ) → IsShort (refusal code) 8
unfolding refusal
refusal_short code =
    choose_short code empty_code (constant_short (Refused Empty)) (
    choose_short code unknown_code
    (variant_short (λ output. Refused (Unknown output)) if_unknown
    (shorter 8 (omega arith) byte_short)) (
    choose_short code bad_channel_code
    (variant_short (λ p. Refused (BadChannel p.0 p.1)) if_bad_channel
    (shorter 8 (omega arith) (then_short byte_short byte_short))) (
    choose_short code locked_code
    (variant_short (λ output. Refused (Locked output)) if_locked
    (shorter 8 (omega arith) byte_short)) (
    choose_short code row_code
    (variant_short (λ p. Refused (Row p.0 p.1)) if_row
    (shorter 8 (omega arith) (then_short byte_short row_fault_short))) (
    choose_short code time_code (constant_short (Refused Time)) (
    choose_short code not_pending_code
    (variant_short (λ id. Refused (NotPending id)) if_not_pending (number_short 8))
    no_form_short))))))

-- at most 255 pending activations
abbrev most : ℕ
most = 49882336

dated_short : (format : Format) → IsShort (number 8 ▸ moment format) most
dated_short format =
    shorter most (omega arith) (then_short (number_short 8) (moment_short format))

plain_short : (format : Format) (d : DeviceParts) → IsDevice d
    → IsShort (plain_reply format (widths_of d)) (1 + most)
unfolding plain_reply
plain_short format d is = tagged_short (λ code.
    choose_short code activated_code
    (variant_short (λ p. Activated p.0 p.1.0 p.1.1) if_activated (dated_short format)) (
    choose_short code scheduled_code
    (variant_short (λ p. Scheduled p.0 p.1.0 p.1.1) if_scheduled (dated_short format)) (
    choose_short code deleted_code
    (variant_short (λ id. Deleted id) if_deleted (shorter most (omega arith) (number_short 8))) (
    choose_short code active_code
    (variant_short (λ v. Active v) if_active (shorter most (omega arith) (view_short format d is))) (
    choose_short code pending_code
    (variant_short (λ items. Pending items) if_pending
    (shorter most (omega arith) (counted_short (pending_short format))))
    (shorter most (omega arith) (refusal_short code)))))))

-- ---- what a writer asks

pending_holds : (format : Format) (items : List PendingItem)
    → (counted (pending format)).Fits items → HoldsPending format items
pending_holds format items fits =
    (fits.0, All-from_recursion (pending format).Fits items fits.1.1)

abbrev none : Option Activation
none = None

skip : {P A Q C : Type 0} → (A → ⊥) → (P × A) ⊎ (Q × C) → C
skip never (inl h) = absurd (never h.1)
skip never (inr h) = h.1

taken : {P A C : Type 0} → P → (P × A) ⊎ ((P → ⊥) × C) → A
taken p (inl h) = h.1
taken p (inr h) = absurd (h.0 p)

not_none : (a : Activation) → none ≡ Some a → ⊥
not_none a e = absurd cc

last_holds : (format : Format) (a : Option Activation) → (last format).Fits a
    → HoldsLast format a
unfolding last shown
last_holds format None fits = tt
last_holds format (Some a) fits =
    moment_holds format a.tick a.offset (taken refl (skip (not_none a) fits.1)).0.1.1

holds_plain : (format : Format) (widths : List ℕ) (r : Reply) → (plain_reply format widths).Fits r
    → HoldsReply format r
unfolding plain_reply view
holds_plain format widths (Activated id tick offset) fits =
    moment_holds format tick offset (taken refl fits.1).0.1
holds_plain format widths (Scheduled id tick offset) fits =
    moment_holds format tick offset (taken refl (skip (λ f. f) fits.1)).0.1
holds_plain format widths (Deleted id) fits = tt
holds_plain format widths (Active v) fits =
    last_holds format v.last (taken refl (skip (λ f. f) (skip (λ f. f) (skip (λ f. f) fits.1)))).0.0
holds_plain format widths (Refused refused) fits = tt
holds_plain format widths (Pending items) fits =
    pending_holds format items (taken refl
    (skip (λ f. f) (skip (λ f. f) (skip (λ f. f) (skip (λ f. f) fits.1))))).0

holds_said : (format : Format) (widths : List ℕ) (s : Said) → (said format widths).Fits s
    → HoldsSaid format s
unfolding said
holds_said format widths (Plain r) fits = holds_plain format widths r (taken refl fits.1).0
holds_said format widths (Http bytes) fits = tt

pub holds_reply : (format : Format) (widths : List ℕ) (r : ReplyItem)
    → (reply format widths).Fits r → HoldsSaid format r.said
unfolding reply
holds_reply format widths r fits = holds_said format widths r.said fits.1.1.1

-- ---- plain replies

plain_said_short : (format : Format) (d : DeviceParts) (r : Reply) → IsDevice d
    → (said format (widths_of d)).Fits (Plain r)
    → length ((said format (widths_of d)).text (Plain r)) ≤ 2 + most
unfolding said
plain_said_short format d r is fits =
    let s = (plain_short format d is).most r (taken refl fits.1).0 in
    omega (arith, s)

body_short : (format : Format) (d : DeviceParts) (client : ℕ) (at : Stamp) (s : Said)
    → length ((said format (widths_of d)).text s) ≤ 2 + most
    → length ((reply format (widths_of d)).text (reply_item client at s)) < 256 ^ 4
unfolding reply
body_short format d client at s short =
    let told = (said format (widths_of d)).text s in
    omega (
      arith,
      short,
      length-number 8 at.calls,
      length-number 8 at.claims,
      length-append (number_text 8 at.claims) told,
      length-append (number_text 8 at.calls)
          (number_text 8 at.claims ++ told),
    )

fits_said : (format : Format) (widths : List ℕ) (r : ReplyItem) → (reply format widths).Fits r
    → (said format widths).Fits r.said
unfolding reply
fits_said format widths r fits = fits.1.1.1

-- the record of a plain reply is short: where its fields fit, it can be written
pub plain_record : (format : Format) (d : DeviceParts) (client : ℕ) (at : Stamp) (r : Reply)
    → IsDevice d → client < CLIENTS
    → (reply format (widths_of d)).Fits (reply_item client at (Plain r))
    → FitsReply format d (reply_item client at (Plain r))
plain_record format d client at r is few fits = record {
  fits = fits;
  short = body_short format d client at (Plain r)
      (plain_said_short format d r is (fits_said format (widths_of d) (reply_item client at (Plain r)) fits));
  client = few;
}
