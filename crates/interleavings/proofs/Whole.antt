-- The history of a run is legal.
use Rattle.std.proofs.Common.{◌≡◌, ℕ, ◌<◌, List, [], map, Option, Some, true, sym, subst, ◌∙◌}
use Rattle.std.proofs.Common.{arith, zero-add}
use Rattle.std.specs.Prelude.{slice_get}
use Rattle.std.specs.List.{range_with_len}
use Rattle.std.proofs.lemmas.List.FromFn.{length-map-range_with_len, get_or-map-range_with_len}
use Rattle.std.proofs.lemmas.Option.{slice_get_within, get_or_from_slice_get}
use Rattle.map_entry.specs.Setup.{SetupParts}
use Rattle.packet_writer.specs.Flags.{Sights, is_there}
use Rattle.packet_writer.specs.Packet.{Blocks}
use Rattle.packet_writer.proofs.ClaimLaws.{closed_are_free}
use Rattle.book_words.specs.declared.calls.JournalCall.{JournalCall}
use Rattle.book_words.specs.declared.given.Given.{Given}
use Rattle.book_words.specs.declared.history.ClaimItem.{ClaimItem}
use Rattle.book_words.specs.declared.history.History.{History}
use Rattle.book_words.specs.declared.history.ReplyItem.{ReplyItem}
use Rattle.book_words.specs.declared.history.Said.{Said}
use Rattle.book_words.specs.declared.replies.Reply.{Reply}
use Rattle.book_words.specs.declared.requests.Request.{Request}
use Rattle.plain_book.specs.Given.{AreGiven, given_reply}
use Rattle.book_words.specs.History.{history_of, in_order}
use Rattle.plain_book.specs.Journal.{entries_of}
use Rattle.plain_book.proofs.Giving.{given_legal}
use Rattle.plain_book.proofs.Prefixes.{no_calls}
use Rattle.interleavings.specs.declared.events.AnsweredEvent.{AnsweredEvent}
use Rattle.interleavings.specs.Events.{IsRun, block_in, claims_in, journal_in}
use Rattle.interleavings.specs.Legal.{AreClaims, Form, IsClaim, IsFreeHistory, IsLegalHistory}
use Rattle.interleavings.specs.Legal.{Standing, StandsThere, asks_itself, closed_form, free_form}
use Rattle.interleavings.specs.Legal.{says_reply}
use Rattle.interleavings.specs.Run.{asks_in, claim_in, has_seen, history_in, replies_given}
use Rattle.interleavings.specs.Told.{requests_of}
use Rattle.interleavings.proofs.Answering.{asks_are, given_in, replies_are, run_given}
use Rattle.interleavings.proofs.Sights.{run_claim}
use Rattle.interleavings.proofs.Telling.{plain_calls, plain_replies}

map_at : {X : Type 0} (f : ℕ → X) (n k : ℕ) (x : X)
    → slice_get (map f (range_with_len 0 n)) k ≡ Some x → f k ≡ x
map_at f n k x e =
    let lt : k < n =
    (let w = slice_get_within (map f (range_with_len 0 n)) k x e in
    omega (arith, w, length-map-range_with_len f 0 n)) in
    sym (get_or-map-range_with_len f 0 n k k x lt (zero-add k))
    ∙ get_or_from_slice_get (map f (range_with_len 0 n)) k x x e

-- claims by their numbers
pub claims_legal : (s : SetupParts) (journal : List JournalCall) (blocks : Blocks) (Allows : Form)
    (f : ℕ → ClaimItem) (claims : ℕ)
    → ((k : ℕ) → IsClaim s journal blocks Allows k (f k))
    → AreClaims s journal blocks Allows claims (map f (range_with_len 0 claims))
claims_legal s journal blocks Allows f claims is = record {
  all = length-map-range_with_len f 0 claims;
  each = λ k claim e. subst (IsClaim s journal blocks Allows k) (map_at f claims k claim e) (is k);
}

-- claims that are legal, and the answers of a book in order, are a legal history
pub given_history : (s : SetupParts) (claims : ℕ) (blocks : Blocks) (Allows : Form)
    (asks : ℕ → List Request) (given : List Given) (journal : List JournalCall)
    (items : List ClaimItem) (replies : List ReplyItem)
    → AreGiven s [] 0 given journal claims → ((client : ℕ) → requests_of given client ≡ asks client)
    → map given_reply given ≡ replies
    → AreClaims s journal blocks Allows claims items
    → IsLegalHistory s asks_itself says_reply StandsThere claims blocks Allows asks
    (history_of items journal (in_order replies))
given_history s claims blocks Allows asks given journal items replies are whole said claimed =
    subst (λ (rs : List ReplyItem).
    IsLegalHistory s asks_itself says_reply StandsThere claims blocks Allows asks
    (history_of items journal (in_order rs))) said
    (record {
      journal = given_legal s [] 0 given journal claims (no_calls s 0) are;
      claimed = claimed;
      replied = plain_replies s journal claims asks given are whole;
      calls = plain_calls s journal claims asks given are whole;
    })

-- whatever happens, in whatever order, the history of what was answered is legal
pub run_legal : (s : SetupParts) (ticks : ℕ) (events : List AnsweredEvent) → IsRun s ticks events
    → IsFreeHistory s (claims_in events) (block_in events) (has_seen s events) (asks_in events)
    (history_in s events)
unfolding history_in
run_legal s ticks events run =
    let journal = journal_in s events in
    given_history s (claims_in events) (block_in events)
    (free_form s journal (block_in events) (has_seen s events)) (asks_in events)
    (given_in events) journal
    (map (claim_in s journal events) (range_with_len 0 (claims_in events))) (replies_given events)
    (run_given s ticks events run) (asks_are s ticks events run) (replies_are events)
    (claims_legal s journal (block_in events)
    (free_form s journal (block_in events) (has_seen s events)) (claim_in s journal events)
    (claims_in events) (λ k. run_claim s ticks events k run))

-- ---- one form of flags in place of another

pub other_form : {A : Type 0} (s : SetupParts) (asked : A → Option Request)
    (says : A → Option Reply → Option Said) (Stands : Standing) (claims : ℕ) (blocks : Blocks)
    (Allows Others : Form) (asks : ℕ → List A) (h : History)
    → ((k : ℕ) (claim : ClaimItem) → Allows k claim.found → Others k claim.found)
    → IsLegalHistory s asked says Stands claims blocks Allows asks h
    → IsLegalHistory s asked says Stands claims blocks Others asks h
other_form s asked says Stands claims blocks Allows Others asks h weaker is = record {
  journal = is.journal;
  claimed = record {
    all = is.claimed.all;
    each = λ k claim e.
        let its = is.claimed.each k claim e in
        record { number = its.number; flags = weaker k claim its.flags; packet = its.packet };
  };
  replied = is.replied;
  calls = is.calls;
}

-- a history that is legal in closed form is legal in free form, whatever of the blocks was seen
pub closed_free : {A : Type 0} (s : SetupParts) (asked : A → Option Request)
    (says : A → Option Reply → Option Said) (Stands : Standing) (claims : ℕ) (blocks : Blocks)
    (seen : Sights) (asks : ℕ → List A) (h : History)
    → ((k input : ℕ) → seen k input ≡ true → is_there s blocks k input ≡ true)
    → IsLegalHistory s asked says Stands claims blocks (closed_form s h.journal blocks) asks h
    → IsLegalHistory s asked says Stands claims blocks (free_form s h.journal blocks seen) asks h
closed_free s asked says Stands claims blocks seen asks h there is =
    other_form s asked says Stands claims blocks (closed_form s h.journal blocks)
    (free_form s h.journal blocks seen) asks h
    (λ k claim flags. closed_are_free s seen (entries_of s h.journal) blocks k claim.found
    (λ input lt is. there k input is) flags) is
