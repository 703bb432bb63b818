-- The parts of a session's history, joined, are a legal history.
use Rattle.interleavings.proofs.Shapes.{HasShape}
use Rattle.std.proofs.Common.{◌≡◌, ℕ, ◌+◌, ◌≤◌, List, [], ◌∷◌, ◌++◌, refl, sym, ap, subst, ◌∙◌}
use Rattle.std.proofs.Common.{arith, append_assoc}
use Rattle.std.specs.Prelude.{fold}
use Rattle.std.proofs.lemmas.List.Elements.{All-append, All-nil}
use Rattle.map_entry.specs.Setup.{SetupParts}
use Rattle.packet_writer.specs.Packet.{Blocks}
use Rattle.book_words.specs.declared.calls.JournalCall.{JournalCall}
use Rattle.book_words.specs.declared.given.Given.{Given}
use Rattle.book_words.specs.declared.history.ClaimItem.{ClaimItem}
use Rattle.book_words.specs.declared.history.History.{History}
use Rattle.book_words.specs.declared.history.ReplyItem.{ReplyItem}
use Rattle.book_words.specs.declared.requests.Request.{Request}
use Rattle.plain_book.specs.Given.{AreGiven, replies_of}
use Rattle.book_words.specs.History.{history_of, put}
use Rattle.plain_book.specs.Legal.{IsLegalJournal}
use Rattle.plain_book.proofs.Giving.{given_then, parts_given}
use Rattle.session_laws.specs.Facts.{AreLaps, Gathering, IsLegalBy, IsSession, Lap, given_in_all}
use Rattle.session_laws.specs.Facts.{given_in_laps, items_of}
use Rattle.session_laws.specs.Steps.{AreHistoryParts, IsHistoryPart, all_joined, parts_joined}
use Rattle.session_laws.proofs.Lapped.{AreItems, IsClaimed}
use Rattle.session_laws.proofs.Numbered.{numbered_then}
use Rattle.session_laws.proofs.Sessions.{InOrder, claims_whole, first_items, put_in_order}
use Rattle.session_laws.proofs.Sessions.{session_asks, session_given, session_journal}
use Rattle.interleavings.proofs.Telling.{plain_calls, plain_replies}

-- what has been joined so far: the claims made, the calls accepted, and the replies of the answers
-- given
record IsSoFar (s : SetupParts) (g : Gathering) (blocks : Blocks) (last : List JournalCall)
    (from : ℕ) (journal : List JournalCall) (given : List Given) (h : History) : Type 0 where
  claims : InOrder s g blocks last 0 from h.claims
  calls : h.journal ≡ journal
  replies : h.replies ≡ replies_of given

-- one part more
so_far_more : (s : SetupParts) (g : Gathering) (blocks : Blocks) (last : List JournalCall)
    (from to high : ℕ) (journal after : List JournalCall) (given more : List Given)
    (items : List ClaimItem) (h part : History)
    → from ≤ to → AreGiven s [] 0 (given ++ more) after high
    → AreItems s g blocks last from to items → IsHistoryPart journal after items more part
    → IsSoFar s g blocks last from journal given h
    → IsSoFar s g blocks last to after (given ++ more) (parts_joined h part)
so_far_more s g blocks last from to high journal after given more items h part up
    answered are its far =
    let own = put_in_order s g blocks last from to items part.claims up are its.claims its.rises in
    record {
      claims = record {
        numbers = numbered_then 0 from to h.claims part.claims far.claims.numbers own.numbers;
        claimed = All-append (IsClaimed s g last blocks) h.claims part.claims
            far.claims.claimed own.claimed;
      };
      calls = ap (λ (z : List JournalCall). z ++ part.journal) far.calls ∙ its.calls;
      replies = ap (λ (z : List ReplyItem). fold put z part.replies) far.replies
          ∙ ap (fold put (replies_of given)) its.replies
          ∙ parts_given s [] 0 given more after high answered;
    }

-- no claims
no_items : (s : SetupParts) (g : Gathering) (blocks : Blocks) (last : List JournalCall) (at to : ℕ)
    → at ≡ to → AreItems s g blocks last at to []
no_items s g blocks last at to same = record {
  counted = record {
    one = λ k low high. absurd (omega (arith, same, low, high));
    none = λ k out. refl;
  };
  claimed = tt;
}

-- all parts after what has been joined
far_joined : (s : SetupParts) (g : Gathering) (blocks : Blocks) (m from : ℕ)
    (journal : List JournalCall) (laps : List Lap) (end last : List JournalCall)
    (late given : List Given) (h : History) (parts : List History) → HasShape s
    → IsLegalJournal s m last
    → AreGiven s end m late last m → AreLaps s g blocks from journal laps m end
    → AreGiven s [] 0 given journal from → AreHistoryParts journal laps late last parts
    → IsSoFar s g blocks last from journal given h
    → IsSoFar s g blocks last m last (given ++ given_in_all laps late) (fold parts_joined h parts)
far_joined s g blocks m from journal [] end last late given h [] some legal after are before
    parts_are far = absurd parts_are
far_joined s g blocks m from journal [] end last late given h (part ∷ []) some legal after are
    before parts_are far =
    let same : AreGiven s journal from late last m =
    subst (λ (f : ℕ). AreGiven s journal f late last m) (sym are.0)
    (subst (λ (j : List JournalCall). AreGiven s j m late last m) (sym are.1) after) in
    so_far_more s g blocks last from m m journal last given late [] h part (omega (arith, are.0))
    (given_then s [] journal last 0 from m given late before same)
    (no_items s g blocks last from m are.0) parts_are far
far_joined s g blocks m from journal [] end last late given h (part ∷ other ∷ parts) some legal
    after are before parts_are far = absurd parts_are
far_joined s g blocks m from journal (l ∷ ls) end last late given h [] some legal after are before
    parts_are far = absurd parts_are
far_joined s g blocks m from journal (l ∷ ls) end last late given h (part ∷ parts) some legal after
    are before parts_are far =
    let now : AreGiven s [] 0 (given ++ l.given) l.journal (from + l.made) =
    given_then s [] journal l.journal 0 from (from + l.made) given l.given before are.1.1.0 in
    let own = first_items s g blocks m from journal l ls m end last late some legal after are in
    let next = so_far_more s g blocks last from (from + l.made) (from + l.made) journal l.journal
    given l.given (items_of l.workers) h part (omega arith) now own parts_are.0 far in
    let whole = far_joined s g blocks m (from + l.made) l.journal ls end last late
    (given ++ l.given) (parts_joined h part) parts some legal after are.1.1.1 now
    parts_are.1 next in
    subst (λ (z : List Given).
    IsSoFar s g blocks last m last z (fold parts_joined (parts_joined h part) parts))
    (append_assoc given l.given (given_in_all ls late)
    ∙ ap (λ (z : List Given). given ++ z) (sym (append_assoc l.given (given_in_laps ls) late)))
    whole

-- nothing yet
nothing_yet : (s : SetupParts) (g : Gathering) (blocks : Blocks) (last : List JournalCall)
    → IsSoFar s g blocks last 0 [] [] (history_of [] [] [])
nothing_yet s g blocks last = record {
  claims = record { numbers = refl; claimed = All-nil (IsClaimed s g last blocks) };
  calls = refl;
  replies = refl;
}

-- the parts of a session, joined, are a legal history
pub joined_legal : (s : SetupParts) (g : Gathering) (blocks : Blocks) (m : ℕ)
    (asks : ℕ → List Request) (laps : List Lap) (late : List Given) (last : List JournalCall)
    (parts : List History) → HasShape s → IsSession s g blocks m asks laps late last
    → AreHistoryParts [] laps late last parts → IsLegalBy s g m blocks asks (all_joined parts)
joined_legal s g blocks m asks laps late last parts some is parts_are =
    let legal = session_journal s g blocks m asks laps late last is in
    let all = far_joined s g blocks m 0 [] laps is.journal last late [] (history_of [] [] []) parts
    some legal is.late_are is.laps_are (refl, omega arith) parts_are
    (nothing_yet s g blocks last) in
    let h : History = all_joined parts in
    let replied =
    plain_replies s last m asks (given_in_all laps late)
    (session_given s g blocks m asks laps late last is)
    (session_asks s g blocks m asks laps late last is) in
    subst (IsLegalBy s g m blocks asks)
    (ap (λ (j : List JournalCall). history_of h.claims j (replies_of (given_in_all laps late)))
    (sym all.calls) ∙ ap (history_of h.claims h.journal) (sym all.replies))
    (record {
      journal = legal;
      claimed = claims_whole s g blocks last m h.claims all.claims;
      replied = replied;
      calls = plain_calls s last m asks (given_in_all laps late)
          (session_given s g blocks m asks laps late last is)
          (session_asks s g blocks m asks laps late last is);
    })
