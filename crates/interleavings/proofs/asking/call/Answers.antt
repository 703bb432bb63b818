use Rattle.interleavings.proofs.Shapes.{has_shape}
use Rattle.std.proofs.Common.{◌≡◌, ◌∙◌, ap, sym, subst, take, length, refl, List, ℕ}
use Rattle.std.proofs.Common.{arith, length-append}
use Rattle.std.specs.Option.{option_to_list}
use Rattle.std.proofs.Math.Seq.{take-append_seam}
use Rattle.plain_book.specs.Book.{call_of, reply_of}
use Rattle.plain_book.specs.Desk.{DeskParts}
use Rattle.book_words.specs.declared.history.ReplyItem.{ReplyItem}
use Rattle.book_words.specs.History.{AreInOrder, put}
use Rattle.interleavings.specs.declared.events.Event.TheVariants.{Call}
use Rattle.interleavings.specs.Core.{desk_after, plain_item, taken_in}
use Rattle.interleavings.proofs.Changing.{call_ready}
use Rattle.interleavings.proofs.Keeping.{asks_it, at_most_one}
use Rattle.interleavings.proofs.Readiness.{same_history}
use Rattle.interleavings.proofs.Stepping.{core_more, replies_ordered, run_in, same_journal}
use Rattle.interleavings.proofs.asking.call.Goals as goal

pub answer-asked-requires : goal.answer-asked-requires
answer-asked-requires c =
    let s = c.args.session.now in
    record {
      order = subst AreInOrder (sym (c.into_vec-replies.ensures ∙ c.replace-kept.ensures.value))
          (replies_ordered s.setup s.workers (taken_in s c.args._events.now) c.args.facts.now
          c.requires.core.ready);
    }

pub keep-requires-clause-few : goal.keep-requires-clause-few
keep-requires-clause-few c =
    let d = c.args.facts.now.desk in
    let call = call_of d.setup d.journal c.args.client d.claims c.args.request.now
    (reply_of d.setup d.journal d.claims c.args.request.now) in
    let was = same_journal c.args.session.now c.args._events.now c.args.facts.now c.requires.core in
    let calls_is : c.len-calls.result ≡ length d.journal = c.len-calls.ensures ∙ ap length was in
    let asked_is : c.as_slice-journal.result.now
    ≡ (desk_after d c.args.client c.args.request.now).journal =
    c.as_slice-journal.ensures ∙ c.journal.ensures.value
    ∙ ap (λ (x : DeskParts). x.journal) c.in-Ok.ensures.desk in
    omega (
      arith,
      ap length asked_is,
      length-append d.journal (option_to_list call),
      at_most_one call,
      calls_is,
    )

pub keep-requires-clause-same : goal.keep-requires-clause-same
keep-requires-clause-same c =
    let d = c.args.facts.now.desk in
    let old = c.args.facts.now.history.journal in
    let call = call_of d.setup d.journal c.args.client d.claims c.args.request.now
    (reply_of d.setup d.journal d.claims c.args.request.now) in
    let was = same_journal c.args.session.now c.args._events.now c.args.facts.now c.requires.core in
    let calls_is : c.len-calls.result ≡ length d.journal = c.len-calls.ensures ∙ ap length was in
    let asked_is : c.as_slice-journal.result.now
    ≡ (desk_after d c.args.client c.args.request.now).journal =
    c.as_slice-journal.ensures ∙ c.journal.ensures.value
    ∙ ap (λ (x : DeskParts). x.journal) c.in-Ok.ensures.desk in
    ap (λ (n : ℕ). take n c.push.new.self) c.len-calls.ensures
    ∙ ap (take (length old)) c.in_ok-push.ensures.ok ∙ take-append_seam old _ ∙ was
    ∙ sym (ap (λ (n : ℕ). take n c.as_slice-journal.result.now) calls_is
    ∙ ap (take (length d.journal)) asked_is
    ∙ take-append_seam d.journal (option_to_list call))

pub keep-requires-clause-last : goal.keep-requires-clause-last
keep-requires-clause-last c =
    let d = c.args.facts.now.desk in
    let was = same_journal c.args.session.now c.args._events.now c.args.facts.now c.requires.core in
    let calls_is : c.len-calls.result ≡ length d.journal = c.len-calls.ensures ∙ ap length was in
    let asked_is : c.as_slice-journal.result.now
    ≡ (desk_after d c.args.client c.args.request.now).journal =
    c.as_slice-journal.ensures ∙ c.journal.ensures.value
    ∙ ap (λ (x : DeskParts). x.journal) c.in-Ok.ensures.desk in
    rw (asked_is, calls_is)
    (asks_it d.setup d.journal c.args.client d.claims c.args.request.now c.in_ok-copy.copy
    c.in_ok-copy.ensures)

pub returns-in-Ok-clause-core : goal.returns-in-Ok-clause-core
returns-in-Ok-clause-core c =
    let s = c.args.session.now in
    let events = c.args._events.now in
    let core = c.requires.core in
    let facts = c.args.facts.now in
    let old = facts.history in
    let item = plain_item facts.desk c.args.client c.args.request.now in
    let asked_is : c.as_slice-journal.result.now
    ≡ (desk_after facts.desk c.args.client c.args.request.now).journal =
    c.as_slice-journal.ensures ∙ c.journal.ensures.value
    ∙ ap (λ (x : DeskParts). x.journal) c.in-Ok.ensures.desk in
    let replies : c.from_vec.result ≡ put old.replies item =
    c.from_vec.ensures ∙ c.in-Ok.ensures.put
    ∙ ap (λ (z : List ReplyItem). put z item)
    (c.into_vec-replies.ensures ∙ c.replace-kept.ensures.value) in
    core_more s events (Call c.args.client c.args.request.now) facts _ core c.requires.range
    (call_ready s.setup s.ticks s.workers (taken_in s events) c.args.client c.args.request.now facts
    _ (has_shape s.setup core.setup) (run_in s events)
    c.in-Ok.ensures.desk refl refl refl
    (same_history refl (c.keep.ensures ∙ asked_is) replies) core.ready)
