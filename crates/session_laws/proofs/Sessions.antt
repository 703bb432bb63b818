-- What a session on running tables leaves is a legal history.
use Rattle.interleavings.proofs.Shapes.{HasShape}
use Rattle.std.proofs.Common.{◌≡◌, ℕ, ◌+◌, ◌≤◌, List, [], ◌∷◌, ◌++◌, get_or, Option, Some}
use Rattle.std.proofs.Common.{refl, sym, ap, subst, ◌∙◌, arith}
use Rattle.std.specs.Prelude.{All, slice_get, IsPermutation}
use Rattle.std.specs.List.Sorted.{IsNonDecreasingBy}
use Rattle.std.proofs.lemmas.List.Elements.{All-from_recursion}
use Rattle.std.proofs.lemmas.List.Sorted.{All-permutation}
use Rattle.std.proofs.lemmas.Option.{slice_get_within, get_or_from_slice_get}
use Rattle.map_entry.specs.Setup.{SetupParts}
use Rattle.packet_writer.specs.Packet.{Blocks}
use Rattle.book_words.specs.declared.calls.JournalCall.{JournalCall}
use Rattle.book_words.specs.declared.given.Given.{Given}
use Rattle.book_words.specs.declared.history.ClaimItem.{ClaimItem}
use Rattle.book_words.specs.declared.history.ReplyItem.{ReplyItem}
use Rattle.book_words.specs.declared.history.Said.{Said}
use Rattle.book_words.specs.declared.replies.Reply.{Reply}
use Rattle.book_words.specs.declared.requests.Request.{Request}
use Rattle.plain_book.specs.Given.{AreGiven}
use Rattle.book_words.specs.History.{AreInOrder, history_of, replies_to}
use Rattle.plain_book.specs.Journal.{entries_of}
use Rattle.plain_book.specs.Legal.{IsLegalJournal}
use Rattle.plain_book.proofs.Giving.{given_legal, given_then}
use Rattle.plain_book.proofs.Lists.{all_append}
use Rattle.plain_book.proofs.Prefixes.{no_calls}
use Rattle.session_laws.specs.Facts.{AreLaps, Gathering, IsSession, Lap, form_by, given_in_all}
use Rattle.session_laws.specs.Facts.{given_in_laps, history_by_given, items_in_laps, items_of}
use Rattle.interleavings.specs.Legal.{AreClaims, IsClaim, IsLegalHistory, StandsThere, asks_itself}
use Rattle.interleavings.specs.Legal.{first_floor, says_reply}
use Rattle.interleavings.specs.Told.{AreSaid, given_to, requests_of}
use Rattle.interleavings.proofs.Answering.{requests_append}
use Rattle.session_laws.proofs.FoundRows.{IsWithLater}
use Rattle.session_laws.proofs.Lapped.{AreItems, IsClaimed, lap_items}
use Rattle.session_laws.proofs.Numbered.{AreNumbered, counted_shuffled, counted_then, numbered}
use Rattle.session_laws.proofs.Numbered.{numbered_at, numbered_long}
use Rattle.interleavings.proofs.Places.{goes_on}
use Rattle.interleavings.proofs.Telling.{plain_calls, plain_replies, told_calls, told_replies}

-- ---- all laps

pub laps_given : (s : SetupParts) (g : Gathering) (blocks : Blocks) (from : ℕ)
    (journal : List JournalCall) (laps : List Lap) (claims : ℕ) (end : List JournalCall)
    → AreLaps s g blocks from journal laps claims end
    → AreGiven s journal from (given_in_laps laps) end claims
laps_given s g blocks from journal [] claims end are = (are.1, omega (arith, are.0))
laps_given s g blocks from journal (l ∷ ls) claims end are =
    given_then s journal l.journal end from (from + l.made) claims l.given (given_in_laps ls)
    are.1.1.0 (laps_given s g blocks (from + l.made) l.journal ls claims end are.1.1.1)

pub laps_below : (s : SetupParts) (g : Gathering) (blocks : Blocks) (from : ℕ)
    (journal : List JournalCall) (laps : List Lap) (claims : ℕ) (end : List JournalCall)
    → AreLaps s g blocks from journal laps claims end → from ≤ claims
laps_below s g blocks from journal [] claims end are = omega (arith, are.0)
laps_below s g blocks from journal (l ∷ ls) claims end are = let rest =
    laps_below s g blocks (from + l.made) l.journal ls claims end are.1.1.1 in omega (arith, rest)

-- the answers after a lap, and those to what was left
pub behind_lap : (s : SetupParts) (g : Gathering) (blocks : Blocks) (from : ℕ) (l : Lap)
    (ls : List Lap) (claims : ℕ) (end last : List JournalCall) (late : List Given)
    → AreLaps s g blocks (from + l.made) l.journal ls claims end
    → AreGiven s end claims late last claims
    → AreGiven s l.journal (from + l.made) (given_in_laps ls ++ late) last claims
behind_lap s g blocks from l ls claims end last late rest after =
    given_then s l.journal end last (from + l.made) claims claims (given_in_laps ls) late
    (laps_given s g blocks (from + l.made) l.journal ls claims end rest) after

-- the claims of the first of the laps
pub first_items : (s : SetupParts) (g : Gathering) (blocks : Blocks) (m from : ℕ)
    (journal : List JournalCall) (l : Lap) (ls : List Lap) (claims : ℕ)
    (end last : List JournalCall) (late : List Given) → HasShape s → IsLegalJournal s m last
    → AreGiven s end claims late last claims → AreLaps s g blocks from journal (l ∷ ls) claims end
    → AreItems s g blocks last from (from + l.made) (items_of l.workers)
first_items s g blocks m from journal l ls claims end last late some legal after are =
    let goes = goes_on s l.journal (from + l.made) (given_in_laps ls ++ late) last claims
    (behind_lap s g blocks from l ls claims end last late are.1.1.1 after) in
    subst (λ (f : ℕ). AreItems s g blocks last f (f + l.made) (items_of l.workers)) (sym are.0)
    (lap_items s g blocks m last l some legal
    (subst (λ (f : ℕ). IsWithLater l.journal (f + l.made) last) are.0 goes) are.1.0)

laps_items : (s : SetupParts) (g : Gathering) (blocks : Blocks) (m from : ℕ)
    (journal : List JournalCall) (laps : List Lap) (claims : ℕ) (end last : List JournalCall)
    (late : List Given) → HasShape s → IsLegalJournal s m last
    → AreGiven s end claims late last claims → AreLaps s g blocks from journal laps claims end
    → AreItems s g blocks last from claims (items_in_laps laps)
laps_items s g blocks m from journal [] claims end last late some legal after are =
    record {
      counted = record {
        one = λ k low high. absurd (omega (arith, are.0, low, high));
        none = λ k out. refl;
      };
      claimed = tt;
    }
laps_items s g blocks m from journal (l ∷ ls) claims end last late some legal after are =
    let first = first_items s g blocks m from journal l ls claims end last late some
    legal after are in
    let rest = laps_items s g blocks m (from + l.made) l.journal ls claims end last late some legal
    after are.1.1.1 in
    let up = laps_below s g blocks (from + l.made) l.journal ls claims end are.1.1.1 in
    record {
      counted = counted_then from (from + l.made) claims (items_of l.workers) (items_in_laps ls)
          (omega arith) up first.counted rest.counted;
      claimed = all_append (IsClaimed s g last blocks) (items_of l.workers) (items_in_laps ls)
          first.claimed rest.claimed;
    }

-- ---- claims in the order of their numbers

-- claims of the history, whose numbers are those from one on below another in order
pub record InOrder (s : SetupParts) (g : Gathering) (blocks : Blocks) (last : List JournalCall)
    (low high : ℕ) (claims : List ClaimItem) : Type 0 where
  pub numbers : AreNumbered low high claims
  pub claimed : All (IsClaimed s g last blocks) claims

pub put_in_order : (s : SetupParts) (g : Gathering) (blocks : Blocks) (last : List JournalCall)
    (low high : ℕ) (items claims : List ClaimItem) → low ≤ high
    → AreItems s g blocks last low high items → IsPermutation items claims
    → IsNonDecreasingBy (λ c. c.k) claims
    → InOrder s g blocks last low high claims
put_in_order s g blocks last low high items claims up are moved rises = record {
  numbers = numbered claims low high up rises
      (counted_shuffled low high items claims moved are.counted);
  claimed = All-permutation (IsClaimed s g last blocks) items claims moved
      (All-from_recursion (IsClaimed s g last blocks) items are.claimed);
}

claim_at : (s : SetupParts) (g : Gathering) (last : List JournalCall) (blocks : Blocks)
    (claims : List ClaimItem) (k : ℕ) (claim : ClaimItem) → claim.k ≡ k
    → All (IsClaimed s g last blocks) claims → slice_get claims k ≡ Some claim
    → IsClaim s last blocks (form_by s g (entries_of s last) blocks) k claim
claim_at s g last blocks claims k claim here all e =
    let is : IsClaimed s g last blocks (get_or claims k claim) =
    all k claim (slice_get_within claims k claim e) in
    subst (λ (i : ℕ). IsClaim s last blocks (form_by s g (entries_of s last) blocks) i claim) here
    (subst (IsClaimed s g last blocks) (get_or_from_slice_get claims k claim claim e) is)

pub claims_whole : (s : SetupParts) (g : Gathering) (blocks : Blocks) (last : List JournalCall)
    (m : ℕ) (claims : List ClaimItem) → InOrder s g blocks last 0 m claims
    → AreClaims s last blocks (form_by s g (entries_of s last) blocks) m claims
claims_whole s g blocks last m claims are = record {
  all = omega (arith, numbered_long 0 m claims are.numbers);
  each = λ k claim e. claim_at s g last blocks claims k claim
      (omega (arith, numbered_at 0 m claims k claim are.numbers e)) are.claimed e;
}

-- ---- a session

pub session_given : (s : SetupParts) (g : Gathering) (blocks : Blocks) (m : ℕ)
    (asks : ℕ → List Request) (laps : List Lap) (late : List Given) (last : List JournalCall)
    → IsSession s g blocks m asks laps late last
    → AreGiven s [] 0 (given_in_all laps late) last m
session_given s g blocks m asks laps late last is =
    given_then s [] is.journal last 0 m m (given_in_laps laps) late
    (laps_given s g blocks 0 [] laps m is.journal is.laps_are) is.late_are

pub session_journal : (s : SetupParts) (g : Gathering) (blocks : Blocks) (m : ℕ)
    (asks : ℕ → List Request) (laps : List Lap) (late : List Given) (last : List JournalCall)
    → IsSession s g blocks m asks laps late last → IsLegalJournal s m last
session_journal s g blocks m asks laps late last is =
    given_legal s [] 0 (given_in_all laps late) last m (no_calls s 0)
    (session_given s g blocks m asks laps late last is)

-- each client's asks are those that were answered
pub session_asks : (s : SetupParts) (g : Gathering) (blocks : Blocks) (m : ℕ)
    (asks : ℕ → List Request) (laps : List Lap) (late : List Given) (last : List JournalCall)
    → IsSession s g blocks m asks laps late last
    → (client : ℕ) → requests_of (given_in_all laps late) client ≡ asks client
session_asks s g blocks m asks laps late last is client =
    requests_append (given_in_laps laps) late client
    ∙ ap (λ (z : List Request). requests_of (given_in_laps laps) client ++ z) (is.rest client)
    ∙ is.shared client

session_claims : (s : SetupParts) (g : Gathering) (blocks : Blocks) (m : ℕ)
    (asks : ℕ → List Request) (laps : List Lap) (late : List Given) (last : List JournalCall)
    (claims : List ClaimItem) → HasShape s → IsSession s g blocks m asks laps late last
    → IsPermutation (items_in_laps laps) claims → IsNonDecreasingBy (λ c. c.k) claims
    → AreClaims s last blocks (form_by s g (entries_of s last) blocks) m claims
session_claims s g blocks m asks laps late last claims some is moved rises =
    let legal = session_journal s g blocks m asks laps late last is in
    claims_whole s g blocks last m claims
    (put_in_order s g blocks last 0 m (items_in_laps laps) claims (omega arith)
    (laps_items s g blocks m 0 [] laps m is.journal last late some legal is.late_are is.laps_are)
    moved rises)

-- the claims in the order of their numbers, the calls, and the replies in order
pub session_legal : (s : SetupParts) (g : Gathering) (blocks : Blocks) (m : ℕ)
    (asks : ℕ → List Request) (laps : List Lap) (late : List Given) (last : List JournalCall)
    (claims : List ClaimItem) → HasShape s → IsSession s g blocks m asks laps late last
    → IsPermutation (items_in_laps laps) claims → IsNonDecreasingBy (λ c. c.k) claims
    → IsLegalHistory s asks_itself says_reply StandsThere m blocks
    (form_by s g (entries_of s last) blocks) asks
    (history_by_given claims (given_in_all laps late) last)
session_legal s g blocks m asks laps late last claims some is moved rises = record {
  journal = session_journal s g blocks m asks laps late last is;
  claimed = session_claims s g blocks m asks laps late last claims some is moved rises;
  replied = plain_replies s last m asks (given_in_all laps late)
      (session_given s g blocks m asks laps late last is)
      (session_asks s g blocks m asks laps late last is);
  calls = plain_calls s last m asks (given_in_all laps late)
      (session_given s g blocks m asks laps late last is)
      (session_asks s g blocks m asks laps late last is);
}

-- with what is said to asks of any kind
pub session_told : {A : Type 0} (s : SetupParts) (asked : A → Option Request)
    (says : A → Option Reply → Option Said) (g : Gathering) (blocks : Blocks) (m : ℕ)
    (requests : ℕ → List Request) (asks : ℕ → List A) (laps : List Lap) (late : List Given)
    (last : List JournalCall) (claims : List ClaimItem) (items : List ReplyItem) → HasShape s
    → IsSession s g blocks m requests laps late last → IsPermutation (items_in_laps laps) claims
    → IsNonDecreasingBy (λ c. c.k) claims
    → ((client : ℕ)
    → AreSaid asked says first_floor (asks client) (given_to client (given_in_all laps late))
    (replies_to client items)) → AreInOrder items
    → IsLegalHistory s asked says StandsThere m blocks (form_by s g (entries_of s last) blocks) asks
    (history_of claims last items)
session_told s asked says g blocks m requests asks laps late last claims items some is moved rises
    said order = record {
      journal = session_journal s g blocks m requests laps late last is;
      claimed = session_claims s g blocks m requests laps late last claims some is moved rises;
      replied = told_replies s asked says last m asks (given_in_all laps late) items
          (session_given s g blocks m requests laps late last is) said order;
      calls = told_calls s asked says last m asks (given_in_all laps late) items
          (session_given s g blocks m requests laps late last is) said;
    }
