-- One lap more, at the end.
use Rattle.std.proofs.Common.{◌≡◌, ℕ, ◌+◌, List, [], ◌∷◌, ◌++◌, refl, sym, ap, ◌∙◌, subst, append_assoc}
use Rattle.std.proofs.lemmas.List.{append-nil}
use Rattle.map_entry.specs.Setup.{SetupParts}
use Rattle.packet_writer.specs.Packet.{Blocks}
use Rattle.book_words.specs.declared.calls.JournalCall.{JournalCall}
use Rattle.book_words.specs.declared.given.Given.{Given}
use Rattle.book_words.specs.declared.history.ClaimItem.{ClaimItem}
use Rattle.book_words.specs.declared.history.History.{History}
use Rattle.plain_book.specs.Given.{AreGiven}
use Rattle.session_laws.specs.Facts.{AreLaps, Gathering, IsLap, Lap, first_claim, given_in_laps}
use Rattle.session_laws.specs.Facts.{IsSession, items_in_laps, items_of}
use Rattle.interleavings.specs.Told.{requests_of}
use Rattle.book_words.specs.declared.requests.Request.{Request}
use Rattle.session_laws.specs.Steps.{AreHistoryParts, IsHistoryPart}
use Rattle.session_laps.specs.Goes.{ArePartsSo, HasLaps}

laps_more : (s : SetupParts) (g : Gathering) (blocks : Blocks) (from : ℕ)
    (journal : List JournalCall) (laps : List Lap) (m : ℕ) (end : List JournalCall) (l : Lap)
    → AreLaps s g blocks from journal laps m end → m ≡ first_claim s l → IsLap s g blocks l
    → AreGiven s end m l.given l.journal (m + l.made)
    → AreLaps s g blocks from journal (laps ++ l ∷ []) (m + l.made) l.journal
laps_more s g blocks from journal [] m end l are at lap given =
    let same : AreGiven s journal from l.given l.journal (from + l.made) =
    subst (λ (n : ℕ). AreGiven s journal n l.given l.journal (n + l.made)) (sym are.0)
    (subst (λ (j : List JournalCall). AreGiven s j m l.given l.journal (m + l.made)) (sym are.1)
    given) in (
      are.0 ∙ at,
      (lap, (same, (ap (λ (n : ℕ). n + l.made) are.0, refl))),
    )
laps_more s g blocks from journal (x ∷ xs) m end l are at lap given = (
  are.0,
  (
    are.1.0,
    (
      are.1.1.0,
      laps_more s g blocks (from + x.made) x.journal xs m end l
          are.1.1.1 at lap given,
    ),
  ),
)

given_more_laps : (laps : List Lap) (l : Lap)
    → given_in_laps (laps ++ l ∷ []) ≡ given_in_laps laps ++ l.given
given_more_laps [] l = append-nil l.given
given_more_laps (x ∷ xs) l =
    ap (λ (z : List Given). x.given ++ z) (given_more_laps xs l)
    ∙ sym (append_assoc x.given (given_in_laps xs) l.given)

items_more_laps : (laps : List Lap) (l : Lap)
    → items_in_laps (laps ++ l ∷ []) ≡ items_in_laps laps ++ items_of l.workers
items_more_laps [] l = append-nil (items_of l.workers)
items_more_laps (x ∷ xs) l =
    ap (λ (z : List ClaimItem). items_of x.workers ++ z) (items_more_laps xs l)
    ∙ sym (append_assoc (items_of x.workers) (items_in_laps xs) (items_of l.workers))

-- from no lap on
pub no_laps : (s : SetupParts) (g : Gathering) (blocks : Blocks)
    → HasLaps s g blocks [] 0 [] [] []
no_laps s g blocks = record { are = (refl, refl); given_is = refl; items_are = refl }

-- one lap more
pub goes_on : (s : SetupParts) (g : Gathering) (blocks : Blocks) (laps : List Lap) (claims : ℕ)
    (journal : List JournalCall) (given : List Given) (items : List ClaimItem) (l : Lap)
    → HasLaps s g blocks laps claims journal given items → claims ≡ first_claim s l
    → IsLap s g blocks l → AreGiven s journal claims l.given l.journal (claims + l.made)
    → HasLaps s g blocks (laps ++ l ∷ []) (claims + l.made) l.journal (given ++ l.given)
    (items ++ items_of l.workers)
goes_on s g blocks laps claims journal given items l has at lap answered = record {
  are = laps_more s g blocks 0 [] laps claims journal l has.are at lap answered;
  given_is = given_more_laps laps l ∙ ap (λ (z : List Given). z ++ l.given) has.given_is;
  items_are = items_more_laps laps l
      ∙ ap (λ (z : List ClaimItem). z ++ items_of l.workers) has.items_are;
}

-- the journal at the end of laps
abbrev pub end_of : List JournalCall → List Lap → List JournalCall
end_of journal [] = journal
end_of journal (l ∷ ls) = end_of l.journal ls

pub parts_more : (journal : List JournalCall) (laps : List Lap) (parts : List History) (l : Lap)
    (part : History) → ArePartsSo journal laps parts
    → IsHistoryPart (end_of journal laps) l.journal (items_of l.workers) l.given part
    → ArePartsSo journal (laps ++ l ∷ []) (parts ++ part ∷ [])
parts_more journal [] [] l part are is = (is, tt)
parts_more journal [] (x ∷ parts) l part are is = absurd are
parts_more journal (x ∷ laps) [] l part are is = absurd are
parts_more journal (x ∷ laps) (y ∷ parts) l part are is =
    (are.0, parts_more x.journal laps parts l part are.1 is)

-- with the part of the answers to what was left
pub parts_end : (journal : List JournalCall) (laps : List Lap) (parts : List History)
    (late : List Given) (last : List JournalCall) (part : History) → ArePartsSo journal laps parts
    → IsHistoryPart (end_of journal laps) last [] late part
    → AreHistoryParts journal laps late last (parts ++ part ∷ [])
parts_end journal [] [] late last part are is = is
parts_end journal [] (x ∷ parts) late last part are is = absurd are
parts_end journal (x ∷ laps) [] late last part are is = absurd are
parts_end journal (x ∷ laps) (y ∷ parts) late last part are is =
    (are.0, parts_end x.journal laps parts late last part are.1 is)

pub end_is : (s : SetupParts) (g : Gathering) (blocks : Blocks) (from : ℕ)
    (journal : List JournalCall) (laps : List Lap) (m : ℕ) (end : List JournalCall)
    → AreLaps s g blocks from journal laps m end → end_of journal laps ≡ end
end_is s g blocks from journal [] m end are = are.1
end_is s g blocks from journal (x ∷ xs) m end are =
    end_is s g blocks (from + x.made) x.journal xs m end are.1.1.1

pub sessions_come : (s : SetupParts) (g : Gathering) (blocks : Blocks) (laps : List Lap) (claims : ℕ)
    (journal last : List JournalCall) (given late : List Given) (items : List ClaimItem)
    (asks left : ℕ → List Request) → HasLaps s g blocks laps claims journal given items
    → AreGiven s journal claims late last claims
    → ((client : ℕ) → requests_of given client ++ left client ≡ asks client)
    → ((client : ℕ) → requests_of late client ≡ left client)
    → IsSession s g blocks claims asks laps late last
sessions_come s g blocks laps claims journal last given late items asks left has after all rest =
    record {
      journal = journal;
      left = left;
      laps_are = has.are;
      late_are = after;
      shared = λ client.
          ap (λ (gs : List Given). requests_of gs client ++ left client) has.given_is ∙ all client;
      rest = rest;
    }

pub parts_on : (s : SetupParts) (g : Gathering) (blocks : Blocks) (laps : List Lap) (claims : ℕ)
    (journal : List JournalCall) (given : List Given) (items : List ClaimItem)
    (parts : List History) (l : Lap) (part : History)
    → HasLaps s g blocks laps claims journal given items → ArePartsSo [] laps parts
    → IsHistoryPart journal l.journal (items_of l.workers) l.given part
    → ArePartsSo [] (laps ++ l ∷ []) (parts ++ part ∷ [])
parts_on s g blocks laps claims journal given items parts l part has so is =
    parts_more [] laps parts l part so
    (subst (λ (j : List JournalCall). IsHistoryPart j l.journal (items_of l.workers) l.given part)
    (sym (end_is s g blocks 0 [] laps claims journal has.are)) is)

pub parts_all : (s : SetupParts) (g : Gathering) (blocks : Blocks) (laps : List Lap) (claims : ℕ)
    (journal last : List JournalCall) (given late : List Given) (items : List ClaimItem)
    (parts : List History) (part : History)
    → HasLaps s g blocks laps claims journal given items → ArePartsSo [] laps parts
    → IsHistoryPart journal last [] late part
    → AreHistoryParts [] laps late last (parts ++ part ∷ [])
parts_all s g blocks laps claims journal last given late items parts part has so is =
    parts_end [] laps parts late last part so
    (subst (λ (j : List JournalCall). IsHistoryPart j last [] late part)
    (sym (end_is s g blocks 0 [] laps claims journal has.are)) is)
