-- What a book over a table keeps. (This project's own.)
use Rattle.std.specs.Prelude.{◌≡◌, ℕ, ◌+◌, ◌*◌, ◌<◌, ◌≤◌, List, [], ◌++◌, length, fold}
use Rattle.io_caps.specs.declared.limits.TheConstants.{PLACES}
use Rattle.map_entry.specs.Setup.{SetupParts}
use Rattle.map_entry.specs.declared.entry.Entry.{Entry}
use Rattle.claim_rule.specs.declared.view.Sight.{Sight}
use Rattle.claim_rule.specs.declared.view.View.{View}
use Rattle.claim_rule.specs.Claims.{claims_at}
use Rattle.claim_word.specs.Faces.{PublisherFace}
use Rattle.book_words.specs.declared.calls.JournalCall.{JournalCall}
use Rattle.book_words.specs.declared.given.Given.{Given}
use Rattle.plain_book.specs.Carry.{carried}
use Rattle.plain_book.specs.Desk.{IsDesk, BookStateParts}
use Rattle.plain_book.specs.Given.{AreGiven}
use Rattle.plain_book.specs.Legal.{IsLegalJournal}
use Rattle.plain_book.specs.Places.{places_kept}
use Rattle.plain_book.specs.Rows.{SelectsAlike}
use Rattle.live_book.specs.Places.{PlacesFace, aside_sum, new_places, places_by, places_first}

-- what contracts see of a book over a table: its setup, the table's publisher, the calls that it
-- accepted, the answers that it gave over this table, how many calls stand before the table's first
-- claim, and the table's places
pub record BookFace : Type 0 where
  pub setup : SetupParts
  pub publisher : PublisherFace
  pub journal : List JournalCall
  pub given : List Given
  pub begun : ℕ
  pub places : PlacesFace

-- the book of these parts
abbrev pub book_of : SetupParts → PublisherFace → List JournalCall → List Given → ℕ → PlacesFace
    → BookFace
book_of setup publisher journal given begun places =
    record {
      setup = setup;
      publisher = publisher;
      journal = journal;
      given = given;
      begun = begun;
      places = places;
    }

-- how many numbers had been drawn at the last of these states, and none where there is no state
abbrev pub last_raw : List Sight → ℕ
last_raw sights = fold (λ raw seen. seen.raw) 0 sights

-- the claims at the state that a view saw last
abbrev pub high : View → ℕ
high v = claims_at v.plan (last_raw v.sights)

-- A lap's calls and answers: a number of calls stand before the table's first claim, and from these
-- on the answers are the one-thread book's, one after the other, up to a number of claims. The
-- places used are those of the first entries and of the calls since.
pub record IsLapped (s : SetupParts) (from : ℕ) (journal : List JournalCall) (given : List Given)
    (begun high : ℕ) (used : ℕ) : Type 0 where
  pub start : List JournalCall
  pub calls : List JournalCall
  pub start_is : length start ≡ begun
  pub journal_is : journal ≡ start ++ calls
  pub given_are : AreGiven s start from given journal high
  pub used_is : used ≡ places_first s start from + places_by calls

-- There are places for the given number of entries and for what is pending, and for the next
-- request of each client for whom some are set aside.
pub record HasPlaces (s : SetupParts) (entries pending : ℕ) (p : PlacesFace) : Type 0 where
  pub each : p.each ≡ 2 * length s.device.outputs
  pub enough : entries + pending ≤ p.used
  pub room : p.used + aside_sum p.each p.aside ≤ PLACES

-- A book that keeps to its table. At the claims that its publisher saw last it is the one-thread
-- book's over the table's entries, which select what the journal's do from the table's first claim
-- on; its answers over this table are the one-thread book's, one after the other; and there are
-- places for all that may come.
pub record IsBook (s : SetupParts) (v : View) (p : BookStateParts) (given : List Given) (begun : ℕ)
    (places : PlacesFace) : Type 0 where
  pub setup_is : v.plan.setup ≡ s
  pub from_is : p.from ≡ v.plan.from
  pub desk : IsDesk s (high v) v.entries p
  pub lapped : IsLapped s v.plan.from p.journal given begun (high v) places.used
  pub placed : HasPlaces s (length v.entries) (places_kept p.pending) places

-- What holds of each book: its publisher is of a table of its setup, whose entries select what the
-- journal's do from the table's first claim on; its answers over this table are the one-thread
-- book's, one after the other, up to the claims that its publisher saw last; they have made a legal
-- journal; and there are places for what is set aside.
pub record Agrees (b : BookFace) : Type 0 where
  pub setup_is : b.publisher.view.plan.setup ≡ b.setup
  pub rules : SelectsAlike b.setup b.publisher.view.plan.from b.publisher.view.entries b.journal
  pub lapped : IsLapped b.setup b.publisher.view.plan.from b.journal b.given b.begun
      (high b.publisher.view) b.places.used
  pub legal : IsLegalJournal b.setup (high b.publisher.view) b.journal
  pub each : b.places.each ≡ 2 * length b.setup.device.outputs
  pub room : b.places.used + aside_sum b.places.each b.places.aside ≤ PLACES

-- The table is full: its first entries, the calls over it and one more of any kind would take more
-- places than it has.
pub record IsFull (b : BookFace) : Type 0 where
  pub start : List JournalCall
  pub calls : List JournalCall
  pub start_is : length start ≡ b.begun
  pub journal_is : b.journal ≡ start ++ calls
  pub full : PLACES
      < places_first b.setup start b.publisher.view.plan.from + places_by calls
      + 2 * length b.setup.device.outputs

-- a new book over a first table: with no call and no answer
abbrev pub new_book : SetupParts → PublisherFace → BookFace
new_book setup publisher =
    book_of setup publisher [] [] 0 (new_places setup (length setup.device.outputs))

-- ---- between two tables

-- what contracts see of a book between two tables: its setup, how many claims were made, and the
-- calls that it accepted
pub record RestFace : Type 0 where
  pub setup : SetupParts
  pub claims : ℕ
  pub journal : List JournalCall

-- the book of these parts
abbrev pub rest_of : SetupParts → ℕ → List JournalCall → RestFace
rest_of setup claims journal = record { setup = setup; claims = claims; journal = journal }

-- what it keeps: at the claims at which it looked it is the one-thread book's, over what it carries
pub record IsRest (s : SetupParts) (base : List Entry) (p : BookStateParts) : Type 0 where
  pub desk : IsDesk s p.seen base p
  pub from_is : p.from ≡ p.seen
  pub base_is : base ≡ carried s p.journal p.seen

-- the book that goes on over a new table
abbrev pub goes_over : RestFace → PublisherFace → BookFace
goes_over r publisher =
    book_of r.setup publisher r.journal [] (length r.journal)
    (new_places r.setup (places_first r.setup r.journal r.claims))
