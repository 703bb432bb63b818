-- What a try to answer a request tells. (This project's own.)
use Rattle.std.specs.Prelude.{◌≡◌, ℕ, ◌+◌, ◌<◌, ◌≤◌, List, [], ◌∷◌, ◌++◌, length, All}
use Rattle.std.specs.Option.{option_map_or}
use Rattle.map_entry.specs.Setup.{SetupParts}
use Rattle.map_entry.specs.declared.entry.Entry.{Entry}
use Rattle.claim_rule.specs.declared.plan.Plan.{Plan}
use Rattle.claim_rule.specs.declared.view.Sight.{Sight}
use Rattle.claim_rule.specs.declared.view.View.{View}
use Rattle.claim_rule.specs.Claims.{claims_at}
use Rattle.claim_rule.specs.Views.{sight}
use Rattle.claim_word.specs.States.{IsMissed}
use Rattle.book_words.specs.declared.calls.JournalCall.{JournalCall}
use Rattle.book_words.specs.declared.given.Given.{Given}
use Rattle.book_words.specs.declared.replies.Reply.{Reply}
use Rattle.book_words.specs.declared.requests.Request.{Request}
use Rattle.book_words.specs.declared.requests.Stamp.{Stamp}
use Rattle.plain_book.specs.Book.{call_of}
use Rattle.plain_book.specs.Desk.{IsAsked}
use Rattle.plain_book.specs.Given.{given_item}
use Rattle.plain_book.specs.Journal.{call_entries, entries_of}
use Rattle.live_book.specs.declared.attempt.Under.{Under}
use Rattle.live_book.specs.declared.attempt.Under.TheVariants.{Moved, NoMemory}
use Rattle.live_book.specs.Books.{BookFace, last_raw}

-- the entries of the call that an answer makes, after those of the calls before, and none where it
-- makes no call
abbrev pub answer_entries : SetupParts → List JournalCall → ℕ → ℕ → Request → Reply → List Entry
answer_entries s before client claims request reply =
    option_map_or (call_entries s before (entries_of s before))
    (call_of s before client claims request reply) []

-- ---- one try

-- the claims are those of the one state that was seen since
pub record IsLoadedOnce (v w : View) (claims : ℕ) : Type 0 where
  pub raw : ℕ
  pub sights : w.sights ≡ v.sights ++ sight raw (length v.entries) ∷ []
  pub claims_is : claims ≡ claims_at v.plan raw

-- the claims are those of the last state that was seen since
pub record IsLoadedLast (v w : View) (claims : ℕ) : Type 0 where
  pub raw : ℕ
  pub earlier : List Sight
  pub sights : w.sights ≡ v.sights ++ (earlier ++ sight raw (length v.entries) ∷ [])
  pub claims_is : claims ≡ claims_at v.plan raw

-- the claims at each of these states are at most a given number
abbrev pub AreBelow : Plan → ℕ → List Sight → Type 0
AreBelow plan claims sights = All (λ seen. claims_at plan seen.raw ≤ claims) sights

-- A number was drawn between a load and the exchange that failed: the state that this found is
-- above the one loaded, and this number of claims belongs to it. So a table answers thus at most as
-- often as it has packets and workers.
pub record IsMoved (v w : View) (claims : ℕ) : Type 0 where
  pub first : ℕ
  pub raw : ℕ
  pub later : last_raw v.sights ≤ first
  pub above : first < raw
  pub most : raw ≤ v.plan.packets + v.plan.workers
  pub claims_is : claims ≡ claims_at v.plan raw
  pub sights :
      w.sights
      ≡ v.sights ++ sight first (length v.entries) ∷ sight raw (length v.entries) ∷ []

-- why there was no answer: an exchange failed, or there was no memory after the load
abbrev pub IsUnder : View → View → Under → Type 0
IsUnder v w (Moved claims) = IsMoved v w claims
IsUnder v w NoMemory = (seen : Sight) × (w.sights ≡ v.sights ++ seen ∷ [])

-- ---- its parts, over what a publisher's view is before and after

-- An answer: the one-thread book's at the claims of one load, kept after the others; and the
-- entries of the call that it makes follow the others. The claims are those of no state below
-- one that was seen or told before.
pub record IsTry (s : SetupParts) (v w : View) (before after : List JournalCall)
    (old new : List Given) (client : ℕ) (request : Request) (reply : Reply)
    (stamp : Stamp) : Type 0 where
  pub asked : IsAsked s before after client request reply stamp
  pub given : new ≡ old ++ given_item client request reply stamp ∷ []
  pub entries : w.entries ≡ v.entries ++ answer_entries s before client stamp.claims request reply
  pub load : IsLoadedOnce v w stamp.claims
  pub told : AreBelow v.plan stamp.claims v.told

-- none: entries, calls and answers are as before
pub record IsStill (v w : View) (before after : List JournalCall)
    (old new : List Given) : Type 0 where
  pub entries : w.entries ≡ v.entries
  pub journal : after ≡ before
  pub given : new ≡ old

-- an exchange failed that expected a given number of draws
pub record IsMissedAt (v w : View) (first claims : ℕ) : Type 0 where
  pub raw : ℕ
  pub above : first < raw
  pub most : raw ≤ v.plan.packets + v.plan.workers
  pub claims_is : claims ≡ claims_at v.plan raw
  pub view : IsMissed v w raw

-- it failed, or there was no exchange
abbrev pub IsMissedBy : View → View → ℕ → Under → Type 0
IsMissedBy v w first (Moved claims) = IsMissedAt v w first claims
IsMissedBy v w first NoMemory = w ≡ v

-- ---- books

-- a fault leaves entries, calls and answers as they were
pub record IsSame (b c : BookFace) : Type 0 where
  pub entries : c.publisher.view.entries ≡ b.publisher.view.entries
  pub journal : c.journal ≡ b.journal
  pub given : c.given ≡ b.given

-- whatever comes, the book is of the same setup, its publisher is that of the same table, which has
-- made as many passes, and as many calls stand before the table
pub record GoesOn (b c : BookFace) : Type 0 where
  pub setup : c.setup ≡ b.setup
  pub publisher : c.publisher ≡ record b.publisher { view = c.publisher.view }
  pub plan : c.publisher.view.plan ≡ b.publisher.view.plan
  pub begun : c.begun ≡ b.begun
