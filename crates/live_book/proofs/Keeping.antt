-- What holds of books.
use Rattle.std.proofs.Common.{◌≡◌, ℕ, ◌+◌, ◌≤◌, Bool, true, false, List, [], ◌++◌, refl, sym, ap}
use Rattle.std.proofs.Common.{◌∙◌}
use Rattle.std.proofs.Common.{subst, arith}
use Rattle.std.specs.Prelude.{Result, Ok, Err, IfOk, ◌||◌, nat_le}
use Rattle.std.proofs.lemmas.Bool.{false≢true, leb-false}
use Rattle.std.proofs.lemmas.List.{append-nil}
use Rattle.io_caps.specs.declared.limits.TheConstants.{CLIENTS, PLACES}
use Rattle.list_laws.proofs.Items.{All-right}
use Rattle.claim_rule.specs.Claims.{claims_at}
use Rattle.claim_rule.specs.Views.{note, noted}
use Rattle.claim_rule.specs.declared.view.Sight.{Sight}
use Rattle.claim_word.specs.Faces.{ClientFace, IsPublisherOf, TableFace}
use Rattle.book_words.specs.declared.calls.JournalCall.{JournalCall}
use Rattle.book_words.specs.declared.replies.Reply.{Reply}
use Rattle.book_words.specs.declared.requests.Request.{Request}
use Rattle.book_words.specs.declared.requests.Stamp.{Stamp}
use Rattle.plain_book.specs.Desk.{BookStateParts}
use Rattle.plain_book.specs.Rows.{SelectsAlike}
use Rattle.plain_book.specs.Legal.{IsLegalJournal}
use Rattle.plain_book.proofs.Keeping.{legal_at}
use Rattle.live_book.specs.declared.attempt.Under.{Under}
use Rattle.live_book.specs.Books.{Agrees, BookFace, IsBook, IsFull, IsLapped, high}
use Rattle.live_book.specs.Places.{aside_sum, is_aside, may_reserve, none_aside}
use Rattle.live_book.specs.Named.{IsShared, left_of}
use Rattle.live_book.specs.Tries.{AreBelow, GoesOn, IsTry}
use Rattle.live_book.proofs.Placing.{none_sum}

or_false : (a b : Bool) → (a || b) ≡ false → b ≡ false
or_false false b is = is
or_false true b is = absurd (false≢true (sym is))

-- what contracts see of a book that keeps to its table
pub agrees_is : (b : BookFace) (p : BookStateParts)
    → IsBook b.setup b.publisher.view p b.given b.begun b.places
    → p.journal ≡ b.journal
    → Agrees b
agrees_is b p is journal =
    record {
      setup_is = is.setup_is;
      rules =
          subst (λ (z : ℕ × List JournalCall).
          SelectsAlike b.setup z.0 b.publisher.view.entries z.1)
          (λ k. (is.from_is k, journal k)) is.desk.alike;
      lapped =
          subst (λ (j : List JournalCall). IsLapped b.setup b.publisher.view.plan.from j b.given
          b.begun (high b.publisher.view) b.places.used) journal is.lapped;
      legal =
          subst (IsLegalJournal b.setup (high b.publisher.view)) journal
          (legal_at b.setup (high b.publisher.view) b.publisher.view.entries p is.desk);
      each = is.placed.each;
      room = is.placed.room;
    }

-- where nothing is set aside, places are refused exactly where the table is full
pub full_is : (b : BookFace) (client : ℕ) → Agrees b → b.places.aside ≡ none_aside
    → may_reserve b.places client ≡ false → IsFull b
full_is b client is none refused =
    let l = is.lapped in let p = b.places in
    let sum : aside_sum p.each p.aside ≡ 0 =
    ap (aside_sum p.each) none ∙ none_sum p.each CLIENTS in
    let high = leb-false (p.used + (aside_sum p.each p.aside + p.each)) PLACES
    (or_false (is_aside p client) (nat_le (p.used + (aside_sum p.each p.aside + p.each)) PLACES)
    refused) in
    record {
      start = l.start;
      calls = l.calls;
      start_is = l.start_is;
      journal_is = l.journal_is;
      full = omega (arith, high, sum, l.used_is, is.each);
    }

-- no answer is below what the client's pass had seen, since the publisher was told of it
pub floor_is : (b h c : BookFace) (p : ClientFace) (client : ℕ) (request : Request)
    (r : Result (Reply × Stamp) Under)
    → h
    ≡ record b { publisher = record b.publisher { view = noted b.publisher.view (note p.view) } }
    → IfOk r
    (λ a. IsTry h.setup h.publisher.view c.publisher.view h.journal c.journal h.given c.given client
    request a.0 a.1)
    → IfOk r (λ a. AreBelow b.publisher.view.plan a.1.claims (p.view.sights ++ p.view.told))
floor_is b h c p client request (Ok a) is tried =
    let told : h.publisher.view.told ≡ b.publisher.view.told ++ (p.view.sights ++ p.view.told) =
    ap (λ (z : BookFace). z.publisher.view.told) is in
    let below =
    subst (λ (z : BookFace). AreBelow z.publisher.view.plan a.1.claims z.publisher.view.told) is
    tried.told in
    All-right (λ (x : Sight). claims_at b.publisher.view.plan x.raw ≤ a.1.claims)
    b.publisher.view.told (p.view.sights ++ p.view.told) below
floor_is b h c p client request (Err e) is tried = tt

-- ---- what is shared

-- at first it is the book named
pub shared_new : (t : TableFace) (named b : BookFace) (asks : ℕ → List Request)
    (left : List (List Request)) → IsPublisherOf t b.publisher → b ≡ named
    → ((client : ℕ) → left_of left client ≡ asks client)
    → IsShared t named asks b left
shared_new t named b asks left of is all = record {
  of = of;
  goes_on =
      subst (GoesOn named) (sym is)
      (record { setup = refl; publisher = refl; plan = refl; begun = refl });
  since = [];
  given_is = ap (λ (z : BookFace). z.given) is ∙ sym (append-nil named.given);
  calls = [];
  journal_is = ap (λ (z : BookFace). z.journal) is ∙ sym (append-nil named.journal);
  asks_are = all;
}
