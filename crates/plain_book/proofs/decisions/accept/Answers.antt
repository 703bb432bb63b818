use Rattle.map_entry.specs.Tick.{frame_key}
use Rattle.std.proofs.Common.{ap, ◌∙◌, arith, rules, ℕ}
use Rattle.book_words.specs.Calls.{journal_call}
use Rattle.plain_book.specs.Desk.{item_above, last_behind, parts}
use Rattle.plain_book.proofs.Keeping.{IsNew, desk_entries}
use Rattle.plain_book.proofs.Publishing.{new_decided}
use Rattle.plain_book.proofs.decisions.accept.Goals as goal

pub push_changes-requires-clause-entries : goal.push_changes-requires-clause-entries
push_changes-requires-clause-entries c =
    rw c.requires.first
    (desk_entries c.args.setup.now c.args.moments.claims c.args.entries.now (parts c.args.kept.now)
    c.requires.desk)

pub returns : goal.returns
returns c =
    let s = c.args.setup.now in
    let claims = c.args.moments.claims in
    let p = parts c.args.kept.now in
    let is : IsNew s claims c.args.client p.journal c.args.request.now c.args.when.now
    c.args.action.now p.next c.args.moments.tick c.args.moments.offset =
    record {
      asks = c.requires.asks;
      free = c.requires.free;
      id_is = c.requires.desk.next_is;
      lands = c.requires.lands;
      few = search rules;
      ordered = c.places-places.ensures.ordered;
    } in
    new_decided s claims c.args.client c.args.entries.now p c.args.when.now c.args.action.now
    c.args.request.now p.next c.args.moments.tick c.args.moments.offset _ _ c.new-call.result c.push_changes.new.made
    c.in_ok-item.item c.last_behind.result c.accepted-reply.result c.requires.desk
    c.requires.looked is
    (c.new-call.ensures
    ∙ ap (journal_call claims c.args.client p.next c.args.moments.tick c.args.moments.offset) c.in_ok-copy.ensures)
    (grind arith)
    (c.in_ok-item.ensures
    ∙ ap (λ (t : ℕ). item_above (frame_key t 0) p.next c.args.when.now c.args.moments.tick c.args.moments.offset c.args.action.now)
    c.requires.first)
    (c.last_behind.ensures
    ∙ ap (λ (t : ℕ). last_behind (frame_key t 0) p.next c.args.when.now c.args.moments.tick
    c.args.moments.offset p.last)
    c.requires.first) (grind arith) c.places-places.ensures.value c.places-places.ensures.few
    c.accepted-reply.ensures
