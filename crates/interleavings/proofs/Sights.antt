-- What was seen is there, and the flags of a run's claims meet the free form.
use Rattle.std.proofs.Common.{◌≡◌, ℕ, Bool, true, false, eqb, ltb, List, [], ◌∷◌, ◌++◌, length}
use Rattle.std.proofs.Common.{get_or, map, Option, Some, None, inl, inr, refl, sym, ap, subst, ◌∙◌}
use Rattle.std.proofs.Common.{zero-add}
use Rattle.std.specs.Prelude.{◌&&◌, ◌||◌, not, is_some, if◌then◌else◌, ℤ}
use Rattle.std.specs.List.{range_with_len}
use Rattle.std.specs.Option.{option_or}
use Rattle.std.proofs.lemmas.Bool.{and_parts, and_from, or_cases, eqb-true, false≢true}
use Rattle.std.proofs.lemmas.List.FromFn.{get_or-map-range_with_len, length-map-range_with_len}
use Rattle.std.proofs.Math.Bool.{or_assoc}
use Rattle.list_laws.proofs.Options.{option_or-None, option_or-assoc, option_or-Some}
use Rattle.map_entry.specs.Setup.{SetupParts}
use Rattle.packet_writer.specs.Flags.{AreFree, names_by}
use Rattle.plain_book.specs.Book.{first_some}
use Rattle.plain_book.specs.Journal.{entries_of}
use Rattle.plain_book.specs.Time.{tick_of_claim}
use Rattle.interleavings.specs.declared.events.Event.{Event}
use Rattle.interleavings.specs.declared.events.Event.TheVariants.{Claim, Look, Set, Close, Call}
use Rattle.interleavings.specs.declared.events.Answer.{Answer}
use Rattle.interleavings.specs.declared.events.AnsweredEvent.{AnsweredEvent}
use Rattle.interleavings.specs.Events.{IsRun, answer_of, block_by, block_in, drawn_by, is_done}
use Rattle.interleavings.specs.Events.{journal_in, latest_of, look_answer}
use Rattle.interleavings.specs.Legal.{IsClaim, free_form}
use Rattle.interleavings.specs.Run.{claim_in, has_seen, is_for, looks, saw, seen_flags, seen_from}
use Rattle.interleavings.specs.Run.{sees_by, worker_of}
use Rattle.interleavings.proofs.Runs.{run_by}

first_some-append : {X Y : Type 0} (f : X → Option Y) (xs ys : List X)
    → first_some f (xs ++ ys) ≡ option_or (first_some f xs) (first_some f ys)
first_some-append f [] ys = refl
first_some-append {X} {Y} f (x ∷ xs) ys =
    ap (option_or (f x)) (first_some-append f xs ys)
    ∙ sym (option_or-assoc (f x) (first_some f xs) (first_some f ys))

-- the block that an event sets by its answer, where it sets one
abbrev pub set_by : ℕ → ℕ → AnsweredEvent → Option (List ℤ)
set_by input tick t = if is_done t.answer then block_by input tick t.event else None

pub block_more : (before : List AnsweredEvent) (t : AnsweredEvent) (input tick : ℕ)
    → block_in (before ++ t ∷ []) input tick
    ≡ option_or (block_in before input tick) (set_by input tick t)
block_more before t input tick =
    first_some-append (set_by input tick) before (t ∷ [])
    ∙ ap (option_or (block_in before input tick)) (option_or-None (set_by input tick t))

-- a block that is there stays
pub block_stays : (before : List AnsweredEvent) (t : AnsweredEvent) (input tick : ℕ)
    → is_some (block_in before input tick) ≡ true
    → is_some (block_in (before ++ t ∷ []) input tick) ≡ true
block_stays before t input tick there = ap is_some (block_more before t input tick)
    ∙ ap is_some (option_or-Some (block_in before input tick) (set_by input tick t) there) ∙ there

-- ---- one more event

or_false : (a : Bool) → (a || false) ≡ (false || a)
or_false true = refl
or_false false = refl

pub seen_more : (s : SetupParts) (worker k input : ℕ) (latest : Option ℕ)
    (before : List AnsweredEvent) (t : AnsweredEvent)
    → seen_from s worker k input latest (before ++ t ∷ [])
    ≡ (seen_from s worker k input latest before || sees_by s worker k input
    (option_or (latest_of worker before) latest) t)
seen_more s worker k input latest [] t = or_false (sees_by s worker k input latest t)
seen_more s worker k input latest (b ∷ before) t =
    ap (λ (x : Bool). sees_by s worker k input latest b || x)
    (seen_more s worker k input (option_or (drawn_by worker b) latest) before t
    ∙ ap (λ (l : Option ℕ). seen_from s worker k input (option_or (drawn_by worker b) latest)
    before || sees_by s worker k input l t)
    (sym (option_or-assoc (latest_of worker before) (drawn_by worker b) latest)))
    ∙ sym (or_assoc (sees_by s worker k input latest b)
    (seen_from s worker k input (option_or (drawn_by worker b) latest) before)
    (sees_by s worker k input
    (option_or (option_or (latest_of worker before) (drawn_by worker b)) latest) t))

-- ---- what was seen is there

abbrev IsThere : SetupParts → List AnsweredEvent → Type 0
IsThere s events = (worker k input : ℕ) → seen_from s worker k input None events ≡ true
    → is_some (block_in events input (tick_of_claim s k)) ≡ true

look_found : (s : SetupParts) (before : List AnsweredEvent) (input k : ℕ) (latest : Option ℕ)
    (answer : Answer) → answer ≡ look_answer s before input latest → saw answer ≡ true
    → is_for s k latest ≡ true
    → is_some (block_in before input (tick_of_claim s k)) ≡ true
look_found s before input k None answer is seen at = absurd (false≢true at)
look_found s before input k (Some j) answer is seen at =
    let same : tick_of_claim s j ≡ tick_of_claim s k =
    eqb-true (tick_of_claim s j) (tick_of_claim s k)
    (and_parts (not (ltb k j)) (eqb (tick_of_claim s j) (tick_of_claim s k)) at).1 in
    let there : is_some (block_in before input (tick_of_claim s j)) ≡ true =
    sym (ap saw is) ∙ seen in
    subst (λ (t : ℕ). is_some (block_in before input t) ≡ true) same there

event_found : (s : SetupParts) (ticks : ℕ) (before : List AnsweredEvent) (event : Event)
    (answer : Answer)
    (worker k input : ℕ) → answer ≡ answer_of s ticks before event
    → looks worker input event ≡ true → saw answer ≡ true
    → is_for s k (latest_of worker before) ≡ true
    → is_some (block_in before input (tick_of_claim s k)) ≡ true
event_found s ticks before (Claim of) answer worker k input is look seen at =
    absurd (false≢true look)
event_found s ticks before (Look of on) answer worker k input is look seen at =
    let parts = and_parts (eqb of worker) (eqb on input) look in
    let by : of ≡ worker = eqb-true of worker parts.0 in
    let its : on ≡ input = eqb-true on input parts.1 in
    look_found s before input k (latest_of worker before) answer
    (is ∙ ap (λ (w : ℕ). look_answer s before on (latest_of w before)) by
    ∙ ap (λ (i : ℕ). look_answer s before i (latest_of worker before)) its) seen at
event_found s ticks before (Set on tick block) answer worker k input is look seen at =
    absurd (false≢true look)
event_found s ticks before (Close on upto) answer worker k input is look seen at =
    absurd (false≢true look)
event_found s ticks before (Call client request) answer worker k input is look seen at =
    absurd (false≢true look)

more_there : (s : SetupParts) (ticks : ℕ) (before : List AnsweredEvent) (t : AnsweredEvent)
    → t.answer ≡ answer_of s ticks before t.event → IsThere s before → IsThere s (before ++ t ∷ [])
more_there s ticks before t is so_far worker k input seen =
    let latest = option_or (latest_of worker before) None in
    block_stays before t input (tick_of_claim s k)
    (elim (or_cases (seen_from s worker k input None before) (sees_by s worker k input latest t)
    (sym (seen_more s worker k input None before t) ∙ seen)) [
      | inl old ↦ so_far worker k input old
      | inr new ↦
          let a = and_parts (looks worker input t.event) (saw t.answer && is_for s k latest) new in
          let b = and_parts (saw t.answer) (is_for s k latest) a.1 in
          event_found s ticks before t.event t.answer worker k input is a.0 b.0
          (sym (ap (is_for s k) (option_or-None (latest_of worker before))) ∙ b.1)
    ])

pub seen_there : (s : SetupParts) (ticks : ℕ) (events : List AnsweredEvent) → IsRun s ticks events
    → IsThere s events
seen_there s ticks events run =
    run_by s ticks (IsThere s) (λ worker k input h. absurd (false≢true h))
    (λ before t so_far is there. more_there s ticks before t is there) events run

-- ---- claims

flags_free : (s : SetupParts) (ticks : ℕ) (events : List AnsweredEvent) (k : ℕ)
    → IsRun s ticks events
    → AreFree s (has_seen s events) (entries_of s (journal_in s events)) (block_in events) k
    (seen_flags s (journal_in s events) (has_seen s events k) k)
flags_free s ticks events k run =
    let n = length s.device.inputs in
    let named = λ (input : ℕ). names_by s (entries_of s (journal_in s events)) k input in
    let flag = λ (input : ℕ). named input && has_seen s events k input in
    record {
      long = length-map-range_with_len flag 0 n;
      each = λ input lt.
          let here : get_or (map flag (range_with_len 0 n)) input false ≡ flag input =
          get_or-map-range_with_len flag 0 n input input false lt (zero-add input) in
          record {
            only = λ set.
                let parts = and_parts (named input) (has_seen s events k input) (sym here ∙ set) in
                (parts.0, seen_there s ticks events run (worker_of events k) k input parts.1);
            wherever = λ is seen. here ∙ and_from (named input) (has_seen s events k input) is seen;
          };
    }

-- each claim of a run has flags that the free form allows, and the packet by the whole journal over
-- the blocks set
pub run_claim : (s : SetupParts) (ticks : ℕ) (events : List AnsweredEvent) (k : ℕ)
    → IsRun s ticks events
    → IsClaim s (journal_in s events) (block_in events)
    (free_form s (journal_in s events) (block_in events) (has_seen s events)) k
    (claim_in s (journal_in s events) events k)
run_claim s ticks events k run =
    record { number = refl; flags = flags_free s ticks events k run; packet = refl }
