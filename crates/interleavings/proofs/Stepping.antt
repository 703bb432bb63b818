-- Runs of events, and what a core keeps, place by place.
use Rattle.std.proofs.Common.{◌≡◌, ℕ, ◌+◌, ◌*◌, ◌<◌, ◌≤◌, Bool, true, false}
use Rattle.std.proofs.Common.{eqb, ltb, List, [], ◌∷◌, ◌++◌, length, get_or, map, Option, Some}
use Rattle.std.proofs.Common.{None, inl, inr, refl, sym, ap, subst, ◌∙◌, zero-add, append_assoc}
use Rattle.std.proofs.Common.{arith, ℤ}
use Rattle.std.specs.Prelude.{◌&&◌, All, fold, if◌then◌else◌, is_some, slice_get}
use Rattle.std.specs.List.{AllByRecursion}
use Rattle.std.specs.Option.{option_or}
use Rattle.std.proofs.lemmas.Nat.{mul-le}
use Rattle.std.proofs.lemmas.Bool.{and_parts, cases_Bool, eqb-true, ltb-true}
use Rattle.std.proofs.lemmas.List.{append-nil, map-append}
use Rattle.std.proofs.lemmas.List.Elements.{All-nil, All-push, recursion_from_All}
use Rattle.std.proofs.lemmas.List.FromFn.{get_or-map-range_with_len, length-map-range_with_len}
use Rattle.std.proofs.lemmas.Option.{get_or_from_slice_get}
use Rattle.io_caps.specs.declared.limits.TheConstants.{MOST_OUTPUTS, SESSION_TICKS}
use Rattle.map_entry.specs.declared.claims.TheConstants.{CLAIMS_LIMIT}
use Rattle.map_entry.specs.Row.{channels_of}
use Rattle.map_entry.specs.Setup.{IsSetup, SetupParts}
use Rattle.packet_writer.specs.Heard.{HasFrames}
use Rattle.plain_book.specs.Desk.{DeskParts, desk_parts}
use Rattle.book_words.specs.declared.history.History.{History}
use Rattle.book_words.specs.declared.history.ReplyItem.{ReplyItem}
use Rattle.book_words.specs.History.{AreInOrder, history_of, put}
use Rattle.plain_book.specs.Journal.{entries_of}
use Rattle.plain_book.specs.Rows.{AreRows}
use Rattle.plain_book.proofs.Keeping.{has_outputs}
use Rattle.plain_book.proofs.Ordering.{put_ordered}
use Rattle.plain_book.proofs.Sound.{entries_are}
use Rattle.interleavings.specs.declared.events.Answer.{Answer}
use Rattle.interleavings.specs.declared.events.Answer.TheVariants.{Claimed, Over}
use Rattle.interleavings.specs.declared.events.Event.{Event}
use Rattle.interleavings.specs.declared.events.Event.TheVariants.{Claim, Look, Set, Close, Call}
use Rattle.interleavings.specs.declared.events.AnsweredEvent.{AnsweredEvent}
use Rattle.interleavings.specs.declared.facts.Facts.{Facts}
use Rattle.interleavings.specs.declared.facts.Session.{Session}
use Rattle.interleavings.specs.declared.facts.Sight.{Sight}
use Rattle.interleavings.specs.Core.{CanShow, IsCore, IsReady, closing_in, no_sight}
use Rattle.interleavings.specs.Core.{repeated, set_at, sight_in, taken_in}
use Rattle.interleavings.specs.Events.{IsInRange, IsRun, block_by, block_in, claims_in}
use Rattle.interleavings.specs.Events.{is_closed, is_done, latest_of, journal_in, run_from, run_of}
use Rattle.interleavings.specs.Events.{taken, taken_by}
use Rattle.interleavings.specs.Run.{claim_in, history_in, replies_given}
use Rattle.interleavings.proofs.Counting.{are_drawn, claims_kept, claims_one, look_undrawn}
use Rattle.interleavings.proofs.Counting.{set_undrawn}
use Rattle.interleavings.proofs.Readiness.{behind, history_is}
use Rattle.interleavings.proofs.Runs.{no_run, run_by, run_more}
use Rattle.interleavings.proofs.Sights.{set_by}
use Rattle.interleavings.proofs.Staying.{run_journal}

-- ---- runs of events

more_from : (s : SetupParts) (ticks : ℕ) (before : List AnsweredEvent) (events : List Event)
    (event : Event)
    → run_from s ticks before (events ++ event ∷ []) ≡ run_from s ticks before events
    ++ taken_by s ticks (run_from s ticks before events) event ∷ []
more_from s ticks before [] event = refl
more_from s ticks before (e ∷ events) event =
    more_from s ticks (before ++ taken_by s ticks before e ∷ []) events event

pub run_of_more : (s : SetupParts) (ticks : ℕ) (events : List Event) (event : Event)
    → run_of s ticks (events ++ event ∷ [])
    ≡ run_of s ticks events ++ taken_by s ticks (run_of s ticks events) event ∷ []
unfolding run_of
run_of_more s ticks events event = more_from s ticks [] events event

is_run_from : (s : SetupParts) (ticks : ℕ) (before : List AnsweredEvent) (events : List Event)
    → IsRun s ticks before
    → IsRun s ticks (run_from s ticks before events)
is_run_from s ticks before [] run = run
is_run_from s ticks before (e ∷ events) run =
    is_run_from s ticks (before ++ taken_by s ticks before e ∷ []) events
    (run_more s ticks before (taken_by s ticks before e) run refl)

pub is_run : (s : SetupParts) (ticks : ℕ) (events : List Event)
    → IsRun s ticks (run_of s ticks events)
unfolding run_of
is_run s ticks events = is_run_from s ticks [] events (no_run s ticks)

pub run_of_none : (s : SetupParts) (ticks : ℕ) → run_of s ticks [] ≡ []
unfolding run_of
run_of_none s ticks = refl

events_from : (s : SetupParts) (ticks : ℕ) (before : List AnsweredEvent) (events : List Event)
    → map (λ t. t.event) (run_from s ticks before events) ≡ map (λ t. t.event) before ++ events
events_from s ticks before [] = sym (append-nil (map (λ t. t.event) before))
events_from s ticks before (e ∷ events) =
    events_from s ticks (before ++ taken_by s ticks before e ∷ []) events
    ∙ ap (λ (z : List Event). z ++ events)
    (map-append (λ (t : AnsweredEvent). t.event) before (taken_by s ticks before e ∷ []))
    ∙ append_assoc (map (λ t. t.event) before) (e ∷ []) events

-- the events of the run of these are these
pub events_of_run : (s : SetupParts) (ticks : ℕ) (events : List Event)
    → map (λ t. t.event) (run_of s ticks events) ≡ events
unfolding run_of
events_of_run s ticks events = events_from s ticks [] events

-- each row of a run's entries passes the check
pub passing : (s : SetupParts) (ticks : ℕ) (events : List Event) → IsSetup s
    → AreRows s (entries_of s (history_in s (run_of s ticks events)).journal)
passing s ticks events is =
    let run = run_of s ticks events in
    let legal = run_journal s ticks run (is_run s ticks events) in
    subst (λ (h : History). AreRows s (entries_of s h.journal)) (sym (history_is s run))
    (entries_are s (claims_in run) (journal_in s run) is (has_outputs s is) legal).rows

-- ---- numbers of claims

by_room : (s : SetupParts) (ticks : ℕ) (before : List AnsweredEvent) (worker : ℕ) (b : Bool)
    → ltb (claims_in before) (ticks * length s.device.outputs) ≡ b
    → claims_in before ≤ ticks * length s.device.outputs
    → claims_in (before ++ taken (Claim worker)
    (if b then Claimed (claims_in before) else Over) ∷ []) ≤ ticks * length s.device.outputs
by_room s ticks before worker true room le =
    let lt = ltb-true (claims_in before) (ticks * length s.device.outputs) room in
    omega (arith, lt, claims_one before worker)
by_room s ticks before worker false room le =
    omega (arith, le, claims_kept before (taken (Claim worker) Over) refl)

more_within : (s : SetupParts) (ticks : ℕ) (before : List AnsweredEvent) (event : Event)
    → claims_in before ≤ ticks * length s.device.outputs
    → claims_in (before ++ taken_by s ticks before event ∷ []) ≤ ticks * length s.device.outputs
more_within s ticks before (Claim worker) le =
    by_room s ticks before worker (ltb (claims_in before) (ticks * length s.device.outputs)) refl le
more_within s ticks before (Look worker input) le =
    omega (
      arith,
      le,
      claims_kept before (taken_by s ticks before (Look worker input))
          (look_undrawn s before input (latest_of worker before)),
    )
more_within s ticks before (Set input tick block) le =
    let none = set_undrawn (is_some (block_in before input tick)) (is_closed before input tick) in
    omega (arith, le, claims_kept before (taken_by s ticks before (Set input tick block)) none)
more_within s ticks before (Close input upto) le =
    omega (arith, le, claims_kept before (taken_by s ticks before (Close input upto)) refl)
more_within s ticks before (Call client request) le =
    omega (arith, le, claims_kept before (taken_by s ticks before (Call client request)) refl)

pub within : (s : SetupParts) (ticks : ℕ) (events : List AnsweredEvent) → IsRun s ticks events
    → claims_in events ≤ ticks * length s.device.outputs
within s ticks events run =
    run_by s ticks (λ t. claims_in t ≤ ticks * length s.device.outputs) (omega arith)
    (λ before t so_far is le.
    subst (λ (a : Answer). claims_in (before ++ taken t.event a ∷ [])
    ≤ ticks * length s.device.outputs) (sym is)
    (more_within s ticks before t.event le)) events run

-- all packets of a session are fewer than claims can be
pub few_packets : (s : SetupParts) (ticks : ℕ) → IsSetup s → ticks ≤ SESSION_TICKS
    → ticks * length s.device.outputs + 1 < CLAIMS_LIMIT
few_packets s ticks is few =
    let most = mul-le ticks (length s.device.outputs) SESSION_TICKS MOST_OUTPUTS few
    is.device.bounds.few_outputs in
    omega (arith, most)

-- ---- blocks

frames_or : (channels frames : ℕ) (a b : Option (List ℤ)) → HasFrames a channels frames
    → HasFrames b channels frames
    → HasFrames (option_or a b) channels frames
frames_or channels frames None b first second = second
frames_or channels frames (Some x) b first second = first

frames_if : (channels frames : ℕ) (test : Bool) (o : Option (List ℤ)) → HasFrames o channels frames
    → HasFrames (if test then o else None) channels frames
frames_if channels frames true o has = has
frames_if channels frames false o has = tt

event_frames : (s : SetupParts) (workers input tick : ℕ) (event : Event) → IsInRange s workers event
    → HasFrames (block_by input tick event) (channels_of s.device.inputs input) s.device.rate.frames
event_frames s workers input tick (Claim worker) range = tt
event_frames s workers input tick (Look worker of) range = tt
event_frames s workers input tick (Set of at block) range =
    elim (cases_Bool (eqb of input && eqb at tick)) [
      | inl here ↦
          let same : of ≡ input =
          eqb-true of input (and_parts (eqb of input) (eqb at tick) here).0 in
          let long : length block ≡ s.device.rate.frames * channels_of s.device.inputs input =
          range.1.long
          ∙ ap (λ (i : ℕ). s.device.rate.frames * channels_of s.device.inputs i) same in
          rw here (omega (arith, long))
      | inr other ↦ rw other tt
    ]
event_frames s workers input tick (Close of upto) range = tt
event_frames s workers input tick (Call client request) range = tt

run_frames : (s : SetupParts) (workers : ℕ) (events : List AnsweredEvent) (input tick : ℕ)
    → AllByRecursion (λ t. IsInRange s workers t.event) events
    → HasFrames (block_in events input tick) (channels_of s.device.inputs input)
    s.device.rate.frames
run_frames s workers [] input tick all = tt
run_frames s workers (t ∷ events) input tick all =
    let n = channels_of s.device.inputs input in
    let frames = s.device.rate.frames in
    frames_or n frames (set_by input tick t) (block_in events input tick)
    (frames_if n frames (is_done t.answer) (block_by input tick t.event)
    (event_frames s workers input tick t.event all.0))
    (run_frames s workers events input tick all.1)

all_events : (P : Event → Type 0) (events : List AnsweredEvent)
    → AllByRecursion P (map (λ t. t.event) events) → AllByRecursion (λ t. P t.event) events
all_events P [] all = tt
all_events P (t ∷ events) all = (all.0, all_events P events all.1)

in_range : (s : SetupParts) (ticks workers : ℕ) (events : List Event)
    → All (IsInRange s workers) events
    → AllByRecursion (λ t. IsInRange s workers t.event) (run_of s ticks events)
in_range s ticks workers events range =
    all_events (IsInRange s workers) (run_of s ticks events)
    (subst (AllByRecursion (IsInRange s workers)) (sym (events_of_run s ticks events))
    (recursion_from_All (IsInRange s workers) events range))

-- ---- what is kept, place by place

pub sights_long : (s : SetupParts) (workers : ℕ) (events : List AnsweredEvent) (facts : Facts)
    → IsReady s workers events facts
    → length facts.sights ≡ workers
sights_long s workers events facts ready =
    ap length ready.sights ∙ length-map-range_with_len (sight_in s events) 0 workers

pub sight_there : (s : SetupParts) (workers : ℕ) (events : List AnsweredEvent) (facts : Facts)
    (worker : ℕ)
    → IsReady s workers events facts
    → worker < workers → worker < length facts.sights
sight_there s workers events facts worker ready lt =
    omega (arith, lt, sights_long s workers events facts ready)

pub sight_is : (s : SetupParts) (workers : ℕ) (events : List AnsweredEvent) (facts : Facts)
    (worker : ℕ)
    (x : Sight) → IsReady s workers events facts
    → worker < workers
    → slice_get facts.sights worker ≡ Some x → x ≡ sight_in s events worker
sight_is s workers events facts worker x ready lt is =
    sym (get_or_from_slice_get facts.sights worker x x is)
    ∙ ap (λ (z : List Sight). get_or z worker x) ready.sights
    ∙ get_or-map-range_with_len (sight_in s events) 0 workers worker worker x lt (zero-add worker)

pub closing_there : (s : SetupParts) (workers : ℕ) (events : List AnsweredEvent) (facts : Facts)
    (input : ℕ)
    → IsReady s workers events facts
    → input < length s.device.inputs
    → input < length facts.closings
closing_there s workers events facts input ready lt =
    omega (
      arith,
      lt,
      ap length ready.closings
          ∙ length-map-range_with_len (closing_in events) 0 (length s.device.inputs),
    )

pub closing_is : (s : SetupParts) (workers : ℕ) (events : List AnsweredEvent) (facts : Facts)
    (input : ℕ)
    → IsReady s workers events facts
    → input < length s.device.inputs
    → get_or facts.closings input 0 ≡ closing_in events input
closing_is s workers events facts input ready lt =
    ap (λ (z : List ℕ). get_or z input 0) ready.closings
    ∙ get_or-map-range_with_len (closing_in events) 0 (length s.device.inputs) input input 0 lt
    (zero-add input)

pub claims_long : (s : SetupParts) (workers : ℕ) (events : List AnsweredEvent) (facts : Facts)
    → IsReady s workers events facts
    → length facts.history.claims ≡ claims_in events
claims_long s workers events facts ready =
    ap (λ (h : History). length h.claims) (ready.history ∙ history_is s events)
    ∙ length-map-range_with_len (claim_in s (journal_in s events) events) 0 (claims_in events)

ordered_fold : (xs ys : List ReplyItem) → AreInOrder xs → AreInOrder (fold put xs ys)
ordered_fold xs [] order = order
ordered_fold xs (y ∷ ys) order = ordered_fold (put xs y) ys (put_ordered xs y order)

pub replies_ordered : (s : SetupParts) (workers : ℕ) (events : List AnsweredEvent) (facts : Facts)
    → IsReady s workers events facts
    → AreInOrder facts.history.replies
replies_ordered s workers events facts ready =
    subst (λ (h : History). AreInOrder h.replies) (sym (ready.history ∙ history_is s events))
    (ordered_fold [] (replies_given events) tt)

-- ---- cores

pub can_show : (c : Session) (events : List Event) (facts : Facts) → IsCore c events facts
    → CanShow c facts
can_show c events facts core = record {
  desk = ap (λ (d : DeskParts). d.setup) core.ready.desk;
  blocks = λ input tick.
      subst (λ (o : Option (List ℤ)).
      HasFrames o (channels_of c.setup.device.inputs input) c.setup.device.rate.frames)
      (sym (core.ready.blocks input tick))
      (run_frames c.setup c.workers (taken_in c events) input tick
      (in_range c.setup c.ticks c.workers events core.range));
}

pub core_more : (c : Session) (events : List Event) (event : Event) (old new : Facts)
    → IsCore c events old → IsInRange c.setup c.workers event
    → IsReady c.setup c.workers (behind c.setup c.ticks (taken_in c events) event) new
    → IsCore c (events ++ event ∷ []) new
core_more c events event old new core range ready = record {
  setup = core.setup;
  few = core.few;
  range = All-push (IsInRange c.setup c.workers) events event core.range range;
  ready = subst (λ (t : List AnsweredEvent). IsReady c.setup c.workers t new)
      (sym (run_of_more c.setup c.ticks events event)) ready;
}

pub start_core : (c : Session) (facts : Facts) → IsSetup c.setup → c.ticks ≤ SESSION_TICKS
    → facts.desk ≡ desk_parts c.setup 0 []
    → facts.sights ≡ repeated (no_sight (length c.setup.device.inputs)) c.workers
    → length facts.blocks.items ≡ length c.setup.device.inputs
    → ((input tick : ℕ) → set_at facts.blocks.items input tick ≡ None)
    → facts.closings ≡ repeated 0 (length c.setup.device.inputs)
    → facts.history ≡ history_of [] [] [] → IsCore c [] facts
start_core c facts is few desk sights inputs blocks closings history = record {
  setup = is;
  few = few;
  range = All-nil (IsInRange c.setup c.workers);
  ready = subst (λ (t : List AnsweredEvent). IsReady c.setup c.workers t facts)
      (sym (run_of_none c.setup c.ticks)) (record {
        desk = desk;
        sights = sights;
        inputs = inputs;
        blocks = blocks;
        closings = closings;
        history = history ∙ sym (history_is c.setup []);
      });
}

-- a worker's latest claim: it is made, and its number is one of a claim
pub record HasClaim (c : Session) (events : List Event) (worker k : ℕ) : Type 0 where
  pub latest : latest_of worker (taken_in c events) ≡ Some k
  pub made : k < claims_in (taken_in c events)
  pub low : k < CLAIMS_LIMIT

pub run_in : (c : Session) (events : List Event) → IsRun c.setup c.ticks (taken_in c events)
run_in c events = is_run c.setup c.ticks events

pub made_low : (c : Session) (events : List Event) (facts : Facts) → IsCore c events facts
    → claims_in (taken_in c events) + 1 < CLAIMS_LIMIT
made_low c events facts core =
    omega (
      arith,
      within c.setup c.ticks (taken_in c events) (run_in c events),
      few_packets c.setup c.ticks core.setup core.few,
    )

pub has_claim : (c : Session) (events : List Event) (facts : Facts) (worker k : ℕ) (x : Sight)
    → IsCore c events facts → worker < c.workers
    → slice_get facts.sights worker ≡ Some x → x.latest ≡ Some k → HasClaim c events worker k
has_claim c events facts worker k x core lt at late =
    let taken = taken_in c events in
    let its = sight_is c.setup c.workers taken facts worker x core.ready lt at in
    let latest : latest_of worker taken ≡ Some k = sym (ap (λ (y : Sight). y.latest) its) ∙ late in
    let made : k < claims_in taken =
    ((are_drawn c.setup c.ticks taken (run_in c events)).own worker k latest).0 in
    record { latest = latest; made = made; low = omega (arith, made, made_low c events facts core) }

-- the calls of the history are the book's
pub same_journal : (c : Session) (events : List Event) (facts : Facts) → IsCore c events facts
    → facts.history.journal ≡ facts.desk.journal
same_journal c events facts core =
    ap (λ (h : History). h.journal) (core.ready.history ∙ history_is c.setup (taken_in c events))
    ∙ sym (ap (λ (d : DeskParts). d.journal) core.ready.desk)
