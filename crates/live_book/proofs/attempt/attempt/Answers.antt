use Rattle.std.proofs.Common.{List, sym, ap, ◌∙◌, subst, arith}
use Rattle.map_entry.specs.declared.entry.Entry.{Entry}
use Rattle.book_words.specs.declared.given.Given.{Given}
use Rattle.plain_book.specs.Desk.{IsDecided, IsDesk, parts}
use Rattle.claim_word.specs.Faces.{PublisherFace}
use Rattle.live_book.specs.Books.{IsBook}
use Rattle.std.proofs.Common.{Option}
use Rattle.std.specs.Prelude.{IfSome}
use Rattle.plain_book.specs.declared.kept.Acceptance.{Acceptance}
use Rattle.plain_book.specs.Desk.{IsMade}
use Rattle.live_book.specs.Places.{spent}
use Rattle.live_book.proofs.Trying.{IsLooked, back, desk_seen, done_book, done_places, done_try}
use Rattle.live_book.proofs.Trying.{made_fits, missed_book}
use Rattle.live_book.proofs.Trying.{missed_under, none_done, seen_book, some_done}
use Rattle.live_book.proofs.attempt.attempt.Goals as goal
use Rattle.live_book.proofs.attempt.attempt.Goals.{After-entries-entries}

-- a state was seen, and what is pending was looked at
looked : (c : After-entries-entries)
    → IsLooked c.args.setup.now c.args.publisher.now.view c.state-seen.new.self.view
    (parts c.args.kept.now) (parts c.look.new.kept) c.state-seen.result
looked c = record {
  sees = c.state-seen.ensures.state;
  view = ap (λ (f : PublisherFace). f.view) c.state-seen.ensures.pass;
  kept = c.look.ensures.parts;
  desk = c.look.ensures.desk;
  own = c.state-seen.ensures.own;
}

desk : (c : After-entries-entries)
    → IsDesk c.args.setup.now c.state-seen.result.claims c.state-seen.new.self.view.entries
    (parts c.look.new.kept)
desk c =
    desk_seen c.args.setup.now c.args.publisher.now.view c.state-seen.new.self.view
    (parts c.args.kept.now) (parts c.look.new.kept) c.args.given.now c.args.begun
    c.args.places.now c.state-seen.result
    c.requires.book (looked c)

book : (c : After-entries-entries)
    → IsBook c.args.setup.now c.state-seen.new.self.view (parts c.look.new.kept) c.args.given.now
    c.args.begun c.args.places.now
book c =
    seen_book c.args.setup.now c.args.publisher.now.view c.state-seen.new.self.view
    (parts c.args.kept.now) (parts c.look.new.kept) c.args.given.now c.args.begun
    c.args.places.now c.state-seen.result
    c.requires.book (looked c)

pub decide-requires-clause-desk : goal.decide-requires-clause-desk
decide-requires-clause-desk c =
    subst (λ (es : List Entry). IsDesk c.args.setup.now c.state-seen.result.claims es
    (parts c.look.new.kept)) (sym c.entries-entries.ensures.value)
    (desk (goal.at.decide-requires-clause-desk c).After-entries-entries)

pub returns-in-Err-clause-book : goal.returns-in-Err-clause-book
returns-in-Err-clause-book c = book (goal.at.returns-in-Err-clause-book c).After-entries-entries

pub returns-in-Err-note-clause-book : goal.returns-in-Err-note-clause-book
returns-in-Err-note-clause-book c =
    subst (λ (g : List Given). IsBook c.args.setup.now c.state-seen.new.self.view
    (parts c.look.new.kept) g c.args.begun c.args.places.now) (sym c.in-Err-note.ensures.err)
    (book (goal.at.returns-in-Err-note-clause-book c).After-entries-entries)

pub spend-requires-clause-room : goal.spend-requires-clause-room
spend-requires-clause-room c =
    (book (goal.at.spend-requires-clause-room c).After-entries-entries).placed.room

pub returns-in-None-clause-book : goal.returns-in-None-clause-book
returns-in-None-clause-book c =
    let at = (goal.at.returns-in-None-clause-book c).After-entries-entries in
    let done = none_done c.args.setup.now c.state-seen.new.self.view (parts c.look.new.kept)
    c.args.client c.state-seen.result.claims c.len-calls.result c.args.request.now _
    c.in-Ok.decided c.in-Ok.ensures c.in-None.is (grind arith) (desk at) in
    subst (IsBook c.args.setup.now c.state-seen.new.self.view (parts c.look.new.kept)
    c.note.new.given c.args.begun) (sym c.spend.ensures)
    (done_book c.args.setup.now c.args.publisher.now.view c.state-seen.new.self.view
    c.state-seen.new.self.view (parts c.args.kept.now) (parts c.look.new.kept)
    (parts c.look.new.kept) c.args.given.now c.note.new.given c.args.begun c.args.places.now
    c.args.client c.len-calls.result
    c.args.request.now c.state-seen.result c.in-Ok.decided 0
    c.requires.book (looked at) done c.in-Ok-note.ensures.ok c.requires.aside)

pub returns-in-None-clause-spent : goal.returns-in-None-clause-spent
returns-in-None-clause-spent c =
    let at = (goal.at.returns-in-None-clause-spent c).After-entries-entries in
    let done = none_done c.args.setup.now c.state-seen.new.self.view (parts c.look.new.kept)
    c.args.client c.state-seen.result.claims c.len-calls.result c.args.request.now _
    c.in-Ok.decided c.in-Ok.ensures c.in-None.is (grind arith) (desk at) in
    c.spend.ensures
    ∙ ap (spent c.args.places.now c.args.client)
    (done_places c.args.setup.now c.args.publisher.now.view c.state-seen.new.self.view
    c.state-seen.new.self.view (parts c.args.kept.now) (parts c.look.new.kept)
    (parts c.look.new.kept) c.args.client c.len-calls.result c.args.request.now c.state-seen.result
    c.in-Ok.decided 0 (looked at) done)

pub returns-in-None-clause-tried : goal.returns-in-None-clause-tried
returns-in-None-clause-tried c =
    let at = (goal.at.returns-in-None-clause-tried c).After-entries-entries in
    let done = none_done c.args.setup.now c.state-seen.new.self.view (parts c.look.new.kept)
    c.args.client c.state-seen.result.claims c.len-calls.result c.args.request.now _
    c.in-Ok.decided c.in-Ok.ensures c.in-None.is (grind arith) (desk at) in
    done_try c.args.setup.now c.args.publisher.now.view c.state-seen.new.self.view
    c.state-seen.new.self.view (parts c.args.kept.now) (parts c.look.new.kept)
    (parts c.look.new.kept) c.args.given.now c.note.new.given c.args.begun c.args.places.now
    c.args.client c.len-calls.result
    c.args.request.now c.state-seen.result c.in-Ok.decided 0
    c.requires.book (looked at) done c.in-Ok-note.ensures.ok

pub publish-requires-clause-room : goal.publish-requires-clause-room
publish-requires-clause-room c =
    let at = (goal.at.publish-requires-clause-room c).After-entries-entries in
    let is = subst (λ (es : List Entry). IsDecided c.args.setup.now c.state-seen.result.claims es
    (parts c.look.new.kept) c.args.client c.args.request.now c.in-Ok.decided)
    c.entries-entries.ensures.value c.in-Ok.ensures in
    let made = subst (λ (o : Option Acceptance). IfSome o (IsMade c.args.setup.now
    c.state-seen.result.claims c.state-seen.new.self.view.entries (parts c.look.new.kept)))
    c.in-Some.is is.made_is in
    made_fits c.args.setup.now c.state-seen.result.claims c.state-seen.new.self.view
    (parts c.look.new.kept) c.args.given.now c.args.begun c.args.places.now c.in-Some.made
    c.args.client (book at) made c.requires.aside

pub returns-in-Ok-publish-clause-book : goal.returns-in-Ok-publish-clause-book
returns-in-Ok-publish-clause-book c =
    let at = (goal.at.returns-in-Ok-publish-clause-book c).After-entries-entries in
    let is = subst (λ (es : List Entry). IsDecided c.args.setup.now c.state-seen.result.claims es
    (parts c.look.new.kept) c.args.client c.args.request.now c.in-Ok.decided)
    c.entries-entries.ensures.value c.in-Ok.ensures in
    let done = some_done c.args.setup.now c.state-seen.new.self.view c.publish.new.publisher.view
    (parts c.look.new.kept) (parts c.publish.new.kept) c.args.client c.state-seen.result.claims
    c.len-calls.result c.args.request.now c.in-Ok.decided c.in-Some.made is c.in-Some.is
    (grind arith) c.in-Ok-publish.ensures.published c.in-Ok-publish.ensures.kept in
    subst (IsBook c.args.setup.now c.publish.new.publisher.view (parts c.publish.new.kept)
    c.note.new.given c.args.begun) (sym c.spend-in-Ok-publish.ensures)
    (done_book c.args.setup.now c.args.publisher.now.view c.state-seen.new.self.view
    c.publish.new.publisher.view (parts c.args.kept.now) (parts c.look.new.kept)
    (parts c.publish.new.kept) c.args.given.now c.note.new.given c.args.begun c.args.places.now
    c.args.client c.len-calls.result
    c.args.request.now c.state-seen.result c.in-Ok.decided c.in-Some.made.places
    c.requires.book (looked at) done c.in-Ok-note.ensures.ok c.requires.aside)

pub returns-in-Ok-publish-clause-spent : goal.returns-in-Ok-publish-clause-spent
returns-in-Ok-publish-clause-spent c =
    let at = (goal.at.returns-in-Ok-publish-clause-spent c).After-entries-entries in
    let is = subst (λ (es : List Entry). IsDecided c.args.setup.now c.state-seen.result.claims es
    (parts c.look.new.kept) c.args.client c.args.request.now c.in-Ok.decided)
    c.entries-entries.ensures.value c.in-Ok.ensures in
    let done = some_done c.args.setup.now c.state-seen.new.self.view c.publish.new.publisher.view
    (parts c.look.new.kept) (parts c.publish.new.kept) c.args.client c.state-seen.result.claims
    c.len-calls.result c.args.request.now c.in-Ok.decided c.in-Some.made is c.in-Some.is
    (grind arith) c.in-Ok-publish.ensures.published c.in-Ok-publish.ensures.kept in
    c.spend-in-Ok-publish.ensures
    ∙ ap (spent c.args.places.now c.args.client)
    (done_places c.args.setup.now c.args.publisher.now.view c.state-seen.new.self.view
    c.publish.new.publisher.view (parts c.args.kept.now) (parts c.look.new.kept)
    (parts c.publish.new.kept) c.args.client c.len-calls.result c.args.request.now
    c.state-seen.result c.in-Ok.decided c.in-Some.made.places (looked at) done)

pub returns-in-Ok-publish-clause-tried : goal.returns-in-Ok-publish-clause-tried
returns-in-Ok-publish-clause-tried c =
    let at = (goal.at.returns-in-Ok-publish-clause-tried c).After-entries-entries in
    let is = subst (λ (es : List Entry). IsDecided c.args.setup.now c.state-seen.result.claims es
    (parts c.look.new.kept) c.args.client c.args.request.now c.in-Ok.decided)
    c.entries-entries.ensures.value c.in-Ok.ensures in
    let done = some_done c.args.setup.now c.state-seen.new.self.view c.publish.new.publisher.view
    (parts c.look.new.kept) (parts c.publish.new.kept) c.args.client c.state-seen.result.claims
    c.len-calls.result c.args.request.now c.in-Ok.decided c.in-Some.made is c.in-Some.is
    (grind arith) c.in-Ok-publish.ensures.published c.in-Ok-publish.ensures.kept in
    done_try c.args.setup.now c.args.publisher.now.view c.state-seen.new.self.view
    c.publish.new.publisher.view (parts c.args.kept.now) (parts c.look.new.kept)
    (parts c.publish.new.kept) c.args.given.now c.note.new.given c.args.begun c.args.places.now
    c.args.client c.len-calls.result
    c.args.request.now c.state-seen.result c.in-Ok.decided c.in-Some.made.places
    c.requires.book (looked at) done c.in-Ok-note.ensures.ok

pub returns-in-Err-publish-clause-book : goal.returns-in-Err-publish-clause-book
returns-in-Err-publish-clause-book c =
    let at = (goal.at.returns-in-Err-publish-clause-book c).After-entries-entries in
    missed_book c.args.setup.now c.args.publisher.now.view c.state-seen.new.self.view
    c.publish.new.publisher.view (parts c.args.kept.now) (parts c.look.new.kept)
    (parts c.publish.new.kept) c.args.given.now _ c.args.begun c.args.places.now
    c.state-seen.result c.in-Err-publish.under
    c.requires.book (looked at) c.in-Err-publish.ensures.missed c.in-Err-publish.ensures.err
    (back c.args.given.now _ _ _ _ c.truncate.ensures c.len-count.ensures c.in-Ok-note.ensures.ok)

pub returns-in-Err-publish-clause-under : goal.returns-in-Err-publish-clause-under
returns-in-Err-publish-clause-under c =
    let at = (goal.at.returns-in-Err-publish-clause-under c).After-entries-entries in
    missed_under c.args.setup.now c.args.publisher.now.view c.state-seen.new.self.view
    c.publish.new.publisher.view (parts c.args.kept.now) (parts c.look.new.kept)
    c.state-seen.result c.in-Err-publish.under (looked at) c.in-Err-publish.ensures.missed
