-- Runs of events, one more event at a time.
use Rattle.std.proofs.Common.{◌≡◌, ℕ, zero, suc, ◌+◌, ◌<◌, ◌≤◌, inl, inr, List, [], ◌∷◌, ◌++◌}
use Rattle.std.proofs.Common.{length, get_or, take, Option, Some, None, refl, ap, ◌∙◌, subst, arith}
use Rattle.std.specs.Prelude.{slice_get, cond, is_some}
use Rattle.std.specs.Option.{option_to_list}
use Rattle.std.proofs.lemmas.List.{take-append-le, take_all, take_more, take-take}
use Rattle.std.proofs.Math.Seq.{take-append_seam}
use Rattle.std.proofs.lemmas.List.Sums.{sum_by-append}
use Rattle.std.proofs.lemmas.Option.{get_or_from_slice_get}
use Rattle.list_laws.proofs.Items.{slice_get-push}
use Rattle.map_entry.specs.Setup.{SetupParts}
use Rattle.book_words.specs.declared.calls.JournalCall.{JournalCall}
use Rattle.plain_book.proofs.Lists.{slice_get_take}
use Rattle.plain_book.proofs.Prefixes.{no_item}
use Rattle.interleavings.specs.declared.events.AnsweredEvent.{AnsweredEvent}
use Rattle.interleavings.specs.Events.{IsRun, answer_of, call_in, claims_in, drawn, journal_from}
use Rattle.interleavings.specs.Events.{journal_in}

-- what one more event does to what is said of the events before it
abbrev pub IsStep : SetupParts → ℕ → (List AnsweredEvent → Type 0) → Type 0
IsStep s ticks P = (before : List AnsweredEvent) (t : AnsweredEvent) → IsRun s ticks before
    → t.answer ≡ answer_of s ticks before t.event → P before → P (before ++ t ∷ [])

run_before : (s : SetupParts) (ticks : ℕ) (events : List AnsweredEvent) (k : ℕ)
    → IsRun s ticks events
    → IsRun s ticks (take k events)
run_before s ticks events k run i t e =
    let at = slice_get_take events k i t e in
    rw (take-take i k events (omega (arith, at.1))) (run i t at.0)

step_to : (s : SetupParts) (ticks : ℕ) (P : List AnsweredEvent → Type 0) → IsStep s ticks P
    → (events : List AnsweredEvent) → IsRun s ticks events
    → (k : ℕ) (o : Option AnsweredEvent) → slice_get events k ≡ o → k < length events
    → P (take k events)
    → P (take (k + 1) events)
step_to s ticks P more events run k None is lt before =
    absurd (omega (arith, lt, no_item events k is))
step_to s ticks P more events run k (Some t) is lt before =
    let next : take (k + 1) events ≡ take k events ++ get_or events k t ∷ [] =
    take_more events k t lt in
    let same : get_or events k t ≡ t = get_or_from_slice_get events k t t is in
    rw (next, same) (more (take k events) t (run_before s ticks events k run) (run k t is) before)

upto : (s : SetupParts) (ticks : ℕ) (P : List AnsweredEvent → Type 0) → P [] → IsStep s ticks P
    → (events : List AnsweredEvent) → IsRun s ticks events
    → (k : ℕ) → k ≤ length events → P (take k events)
upto s ticks P none more events run zero le = none
upto s ticks P none more events run (suc k) le =
    let next : k + 1 ≡ suc k = omega arith in
    subst (λ (i : ℕ). P (take i events)) next
    (step_to s ticks P more events run k (slice_get events k) refl (omega (arith, le))
    (upto s ticks P none more events run k (omega (arith, le))))

-- what holds of no events, and of one more event after a run of which it holds, holds of each run
pub run_by : (s : SetupParts) (ticks : ℕ) (P : List AnsweredEvent → Type 0) → P []
    → IsStep s ticks P
    → (events : List AnsweredEvent) → IsRun s ticks events → P events
run_by s ticks P none more events run =
    let whole : take (length events) events ≡ events =
    take_all (length events) events (omega arith) in
    subst P whole (upto s ticks P none more events run (length events) (omega arith))

-- ---- claims and calls

pub claims_more : (before : List AnsweredEvent) (t : AnsweredEvent)
    → claims_in (before ++ t ∷ []) ≡ claims_in before + cond (is_some (drawn t.answer)) 1 0
claims_more before t =
    omega (
      arith,
      sum_by-append (λ (x : AnsweredEvent). cond (is_some (drawn x.answer)) 1 0)
          before (t ∷ []),
    )

from_more : (s : SetupParts) (journal : List JournalCall) (before : List AnsweredEvent)
    (t : AnsweredEvent)
    → journal_from s journal (before ++ t ∷ [])
    ≡ journal_from s journal before ++ option_to_list
    (call_in s (journal_from s journal before) t.event t.answer)
from_more s journal [] t = refl
from_more s journal (b ∷ before) t =
    from_more s (journal ++ option_to_list (call_in s journal b.event b.answer)) before t

pub journal_more : (s : SetupParts) (before : List AnsweredEvent) (t : AnsweredEvent)
    → journal_in s (before ++ t ∷ [])
    ≡ journal_in s before ++ option_to_list (call_in s (journal_in s before) t.event t.answer)
journal_more s before t = from_more s [] before t

-- ---- runs made of events

-- one more event with the answer that it is given
pub run_more : (s : SetupParts) (ticks : ℕ) (before : List AnsweredEvent) (t : AnsweredEvent)
    → IsRun s ticks before
    → t.answer ≡ answer_of s ticks before t.event
    → IsRun s ticks (before ++ t ∷ [])
run_more s ticks before t run is k x e = elim (slice_get-push before t k x e) [
  | inl old ↦ rw (take-append-le k before (t ∷ []) (let w = old.1 in omega (arith, w)))
      (run k x old.0)
  | inr new ↦
      let whole : take k (before ++ t ∷ []) ≡ before =
      ap (λ (i : ℕ). take i (before ++ t ∷ [])) new.0 ∙ take-append_seam before (t ∷ []) in
      rw whole (subst (λ (y : AnsweredEvent). y.answer ≡ answer_of s ticks before y.event) new.1 is)
]

pub no_run : (s : SetupParts) (ticks : ℕ) → IsRun s ticks []
no_run s ticks k t e = absurd cc
