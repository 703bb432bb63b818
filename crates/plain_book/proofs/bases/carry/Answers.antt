use Rattle.std.proofs.Common.{◌≡◌, ◌≤◌, ℕ, List, [], ◌∷◌, ◌++◌, Some, length, map, take, refl, sym, ap, ◌∙◌, subst}
use Rattle.std.proofs.Common.{append_assoc, arith}
use Rattle.std.specs.Prelude.{slice_get}
use Rattle.std.specs.List.{range_with_len}
use Rattle.std.proofs.lemmas.List.{take_all}
use Rattle.std.proofs.lemmas.Option.{slice_get_read}
use Rattle.map_entry.specs.Action.{OutputChangeParts}
use Rattle.map_entry.specs.Tick.{frame_key}
use Rattle.map_entry.specs.declared.entry.Entry.{Entry}
use Rattle.book_words.specs.declared.calls.JournalCall.{JournalCall}
use Rattle.book_words.specs.declared.replies.PendingItem.{PendingItem}
use Rattle.book_words.specs.Calls.{action_of}
use Rattle.plain_book.specs.Carry.{carried, carried_row, entries_where, first_entry, waiting_entries}
use Rattle.plain_book.specs.Desk.{parts}
use Rattle.plain_book.specs.Pending.{is_pending}
use Rattle.plain_book.specs.Time.{begin}
use Rattle.plain_book.proofs.Carried.{at_place, desk_found, desk_named, rows_found}
use Rattle.plain_book.proofs.Keeping.{desk_entries}
use Rattle.plain_book.proofs.bases.carry.Goals as goal
use Rattle.plain_book.proofs.bases.carry.Goals.{After-index-journal-at}

pub first_entries-requires-clause-entries : goal.first_entries-requires-clause-entries
first_entries-requires-clause-entries c =
    rw c.first_after-first.ensures
    (desk_entries c.args.setup.now c.args.claims c.args.entries.now (parts c.args.kept.now)
    c.requires.desk)

pub push_call-requires-clause-entries : goal.push_call-requires-clause-entries
push_call-requires-clause-entries c =
    rw c.first_after-first.ensures
    (desk_entries c.args.setup.now c.args.claims c.args.entries.now (parts c.args.kept.now)
    c.requires.desk)

pub push_call-requires-clause-outputs : goal.push_call-requires-clause-outputs
push_call-requires-clause-outputs c =
    let there = at_place c.args.kept.now.journal c.as_slice-journal.result.now c.loop-at.at
    c.index-journal-at.result c.as_slice-journal.ensures c.loop-at-test.true c.index-journal-at.is in
    desk_named c.args.setup.now c.args.claims c.args.entries.now (parts c.args.kept.now)
    c.loop-at.at c.index-journal-at.result c.requires.desk there

pub loop-at-preserved : goal.loop-at-preserved
loop-at-preserved c =
    let s = c.args.setup.now in
    let p = parts c.args.kept.now in
    let front = map (first_entry s c.args.entries.now c.args.claims)
    (range_with_len 0 (length s.device.outputs)) in
    let so_far = entries_where s (is_pending s p.journal c.args.claims) []
    (take c.loop-at.at p.journal) in
    let there = at_place p.journal c.as_slice-journal.result.now c.loop-at.at
    c.index-journal-at.result c.as_slice-journal.ensures c.loop-at-test.true c.index-journal-at.is in
    let more = waiting_entries c.args.entries.now p.pending (begin s c.args.claims)
    c.index-journal-at.result in
    c.in_ok-push_call.ensures
    ∙ ap (λ (es : List Entry). es ++ waiting_entries c.args.entries.now
    c.as_slice-pending.result.now (frame_key c.first_after-first.result 0)
    c.index-journal-at.result)
    c.loop-at.invariant
    ∙ ap (λ (is : List PendingItem). (front ++ so_far) ++ waiting_entries c.args.entries.now is
    (frame_key c.first_after-first.result 0) c.index-journal-at.result) c.as_slice-pending.ensures.value
    ∙ ap (λ (k : ℕ). (front ++ so_far) ++ waiting_entries c.args.entries.now p.pending (frame_key k 0)
    c.index-journal-at.result) c.first_after-first.ensures
    ∙ append_assoc front so_far more
    ∙ ap (λ (es : List Entry). front ++ es)
    (desk_found s c.args.claims c.args.entries.now p c.loop-at.at c.index-journal-at.result
    c.requires.desk there)

pub returns : goal.returns
returns c =
    let s = c.args.setup.now in
    let p = parts c.args.kept.now in
    let all : take c.loop-at.at p.journal ≡ p.journal =
    take_all c.loop-at.at p.journal
    (omega (arith, c.loop-at-test.false, ap length c.as_slice-journal.ensures)) in
    c.loop-at.invariant
    ∙ ap (λ (j : List JournalCall). map (first_entry s c.args.entries.now c.args.claims)
    (range_with_len 0 (length s.device.outputs))
    ++ entries_where s (is_pending s p.journal c.args.claims) [] j) all
    ∙ ap (λ (es : List Entry). es ++ entries_where s (is_pending s p.journal c.args.claims) []
    p.journal)
    (rows_found s c.args.claims c.args.entries.now p c.requires.desk)
