-- What is kept, after each event.
use Rattle.interleavings.proofs.Shapes.{HasShape}
use Rattle.std.proofs.Common.{◌≡◌, ℕ, ◌<◌, max, Bool, true, false, eqb, ltb, List, [], ◌∷◌}
use Rattle.std.proofs.Common.{◌++◌, length, map, set, Option, Some, None, inl, inr, refl, sym, ap}
use Rattle.std.proofs.Common.{◌∙◌, arith, ℤ}
use Rattle.std.specs.Prelude.{◌&&◌, ◌||◌, if◌then◌else◌, fold}
use Rattle.std.specs.List.{range_with_len}
use Rattle.std.specs.Option.{option_or, option_to_list}
use Rattle.std.proofs.lemmas.Bool.{and_parts, cases_Bool, cases_lt, eqb-true, eq-eqb, ne_eqb}
use Rattle.std.proofs.lemmas.Bool.{lt-ltb, le-ltb}
use Rattle.std.proofs.lemmas.List.{append-nil}
use Rattle.std.proofs.lemmas.List.Elements.{filter_map-append}
use Rattle.list_laws.proofs.Ranges.{map_same_below}
use Rattle.list_laws.proofs.Options.{option_or-None}
use Rattle.map_entry.specs.Setup.{SetupParts}
use Rattle.packet_writer.specs.Packet.{Blocks}
use Rattle.book_words.specs.declared.calls.JournalCall.{JournalCall}
use Rattle.book_words.specs.declared.history.ClaimItem.{ClaimItem}
use Rattle.book_words.specs.declared.history.ReplyItem.{ReplyItem}
use Rattle.plain_book.specs.Desk.{desk_parts}
use Rattle.book_words.specs.History.{history_of, in_order, put}
use Rattle.interleavings.specs.declared.events.Answer.{Answer}
use Rattle.interleavings.specs.declared.events.Answer.TheVariants.{Done, Over}
use Rattle.interleavings.specs.declared.events.Event.{Event}
use Rattle.interleavings.specs.declared.events.Event.TheVariants.{Claim, Look, Set, Close, Call}
use Rattle.interleavings.specs.declared.events.AnsweredEvent.{AnsweredEvent}
use Rattle.interleavings.specs.declared.facts.Facts.{Facts}
use Rattle.interleavings.specs.Core.{IsReady, closing_in, set_at, sight_in, upto_by}
use Rattle.interleavings.specs.Events.{IsRun, answer_of, block_in, call_in, claims_in, closes}
use Rattle.interleavings.specs.Events.{drawn, is_closed, is_done, journal_in, latest_of, taken}
use Rattle.interleavings.specs.Events.{taken_by}
use Rattle.interleavings.specs.Run.{claim_in, history_in, replies_given, reply_in, saw, sees_by}
use Rattle.interleavings.specs.Run.{worker_of}
use Rattle.interleavings.proofs.Counting.{claims_kept, latest_kept, look_undrawn}
use Rattle.interleavings.proofs.Ranging.{both, set_range}
use Rattle.interleavings.proofs.Runs.{journal_more}
use Rattle.interleavings.proofs.Sighting.{sight_kept}
use Rattle.interleavings.proofs.Sights.{block_more, set_by}
use Rattle.interleavings.proofs.Staying.{claim_stays, unseen}

-- ---- histories

-- the claims of these events, as they are shown
abbrev pub claims_of : SetupParts → List AnsweredEvent → List ClaimItem
claims_of s events =
    map (claim_in s (journal_in s events) events) (range_with_len 0 (claims_in events))

-- the replies of these events, in order
abbrev pub replies_in : List AnsweredEvent → List ReplyItem
replies_in events = in_order (replies_given events)

pub history_is : (s : SetupParts) (events : List AnsweredEvent)
    → history_in s events ≡ history_of (claims_of s events) (journal_in s events)
    (replies_in events)
unfolding history_in
history_is s events = refl

-- histories of the same parts
pub same_history : {a b : List ClaimItem} {j k : List JournalCall} {r q : List ReplyItem}
    → a ≡ b → j ≡ k → r ≡ q
    → history_of a j r ≡ history_of b k q
same_history claims calls replies = λ i. history_of (claims i) (calls i) (replies i)

put_all : (acc xs ys : List ReplyItem) → fold put acc (xs ++ ys) ≡ fold put (fold put acc xs) ys
put_all acc [] ys = refl
put_all acc (x ∷ xs) ys = put_all (put acc x) xs ys

pub replies_more : (before : List AnsweredEvent) (t : AnsweredEvent)
    → replies_in (before ++ t ∷ []) ≡ fold put (replies_in before) (replies_given (t ∷ []))
replies_more before t =
    ap in_order (filter_map-append (λ (x : AnsweredEvent). reply_in x.event x.answer) before
    (t ∷ []))
    ∙ put_all [] (replies_given before) (replies_given (t ∷ []))

-- these events and one more, as it is answered
abbrev pub behind : SetupParts → ℕ → List AnsweredEvent → Event → List AnsweredEvent
behind s ticks before event = before ++ taken_by s ticks before event ∷ []

-- ---- closings

max_assoc : (a b c : ℕ) → max a (max b c) ≡ max (max a b) c
max_assoc a b c = omega arith

max_swap : (a : ℕ) → max a 0 ≡ max 0 a
max_swap a = omega arith

pub closing_more : (before : List AnsweredEvent) (t : AnsweredEvent) (input : ℕ)
    → closing_in (before ++ t ∷ []) input ≡ max (closing_in before input) (upto_by input t.event)
closing_more [] t input = max_swap (upto_by input t.event)
closing_more (b ∷ before) t input =
    ap (max (upto_by input b.event)) (closing_more before t input)
    ∙ max_assoc (upto_by input b.event) (closing_in before input) (upto_by input t.event)

max_none : (a b : ℕ) → b ≡ 0 → max a b ≡ a
max_none a b e = omega (arith, e)

pub closings_stay : (before : List AnsweredEvent) (t : AnsweredEvent) (n : ℕ)
    → ((input : ℕ) → upto_by input t.event ≡ 0)
    → map (closing_in (before ++ t ∷ [])) (range_with_len 0 n)
    ≡ map (closing_in before) (range_with_len 0 n)
closings_stay before t n none =
    map_same_below (closing_in (before ++ t ∷ [])) (closing_in before) n
    (λ i lt. closing_more before t i ∙ max_none (closing_in before i) (upto_by i t.event) (none i))

-- ---- claims, calls, replies and sights

pub claims_stay : (s : SetupParts) (ticks : ℕ) (before : List AnsweredEvent) (event : Event)
    → HasShape s
    → IsRun s ticks before
    → drawn (answer_of s ticks before event) ≡ None
    → ((worker k input : ℕ) (o : Option ℕ)
    → sees_by s worker k input o (taken_by s ticks before event) ≡ false)
    → claims_of s (behind s ticks before event) ≡ claims_of s before
claims_stay s ticks before event some run none blind =
    let after = behind s ticks before event in
    let f = claim_in s (journal_in s after) after in
    ap (λ (n : ℕ). map f (range_with_len 0 n))
    (claims_kept before (taken_by s ticks before event) none)
    ∙ map_same_below f (claim_in s (journal_in s before) before) (claims_in before)
    (λ k lt. sym (claim_stays s ticks before event k some run lt
    (λ input. blind (worker_of before k) k input
    (option_or (latest_of (worker_of before k) before) None))))

pub journal_stays : (s : SetupParts) (before : List AnsweredEvent) (t : AnsweredEvent)
    → call_in s (journal_in s before) t.event t.answer ≡ None
    → journal_in s (before ++ t ∷ []) ≡ journal_in s before
journal_stays s before t empty =
    journal_more s before t
    ∙ ap (λ (o : Option JournalCall). journal_in s before ++ option_to_list o) empty
    ∙ append-nil (journal_in s before)

pub replies_stay : (before : List AnsweredEvent) (t : AnsweredEvent) → replies_given (t ∷ []) ≡ []
    → replies_in (before ++ t ∷ []) ≡ replies_in before
replies_stay before t none = replies_more before t
    ∙ ap (λ (z : List ReplyItem). fold put (replies_in before) z) none

pub sights_stay : (s : SetupParts) (workers : ℕ) (before : List AnsweredEvent) (t : AnsweredEvent)
    → drawn t.answer ≡ None
    → ((worker k input : ℕ) (o : Option ℕ) → sees_by s worker k input o t ≡ false)
    → map (sight_in s (before ++ t ∷ [])) (range_with_len 0 workers)
    ≡ map (sight_in s before) (range_with_len 0 workers)
sights_stay s workers before t none blind =
    map_same_below (sight_in s (before ++ t ∷ [])) (sight_in s before) workers
    (λ worker lt. sight_kept s before t worker (latest_kept worker before t none) (blind worker))

-- ---- an event by which nothing is claimed, seen, called or replied

pub record IsQuiet (s : SetupParts) (event : Event) (answer : Answer) : Type 0 where
  pub undrawn : drawn answer ≡ None
  pub uncalled : (journal : List JournalCall) → call_in s journal event answer ≡ None
  pub silent : reply_in event answer ≡ None
  pub blind : (worker k input : ℕ) (o : Option ℕ)
      → sees_by s worker k input o (taken event answer) ≡ false

none_given : (event : Event) (answer : Answer) → reply_in event answer ≡ None
    → replies_given (taken event answer ∷ []) ≡ []
none_given event answer e = rw e refl

pub quiet_ready : (s : SetupParts) (ticks workers : ℕ) (before : List AnsweredEvent) (event : Event)
    (old new : Facts) → HasShape s → IsRun s ticks before
    → IsQuiet s event (answer_of s ticks before event) → IsReady s workers before old
    → new.desk ≡ old.desk → new.sights ≡ old.sights → new.history ≡ old.history
    → length new.blocks.items ≡ length old.blocks.items
    → ((input tick : ℕ) → set_at new.blocks.items input tick
    ≡ block_in (behind s ticks before event) input tick)
    → new.closings ≡ map (closing_in (behind s ticks before event))
    (range_with_len 0 (length s.device.inputs))
    → IsReady s workers (behind s ticks before event) new
quiet_ready s ticks workers before event old new some run is ready desk sights history inputs
    blocks closings =
    let t = taken_by s ticks before event in
    let journal = journal_stays s before t (is.uncalled (journal_in s before)) in
    let claims = claims_kept before t is.undrawn in
    let replies =
    replies_stay before t (none_given event (answer_of s ticks before event) is.silent) in
    record {
      desk = desk ∙ ready.desk ∙ sym (both (desk_parts s) claims journal);
      sights = sights ∙ ready.sights ∙ sym (sights_stay s workers before t is.undrawn is.blind);
      inputs = inputs ∙ ready.inputs;
      blocks = blocks;
      closings = closings;
      history = history ∙ ready.history ∙ history_is s before
          ∙ sym (history_is s (behind s ticks before event)
          ∙ same_history (claims_stay s ticks before event some run is.undrawn is.blind) journal
          replies);
    }

pub blocks_stay : (before : List AnsweredEvent) (t : AnsweredEvent) (blocks : Blocks)
    → ((input tick : ℕ) → set_by input tick t ≡ None)
    → ((input tick : ℕ) → blocks input tick ≡ block_in before input tick) → (input tick : ℕ)
    → blocks input tick ≡ block_in (before ++ t ∷ []) input tick
blocks_stay before t blocks none so_far input tick =
    so_far input tick ∙ sym
    (block_more before t input tick ∙ ap (option_or (block_in before input tick)) (none input tick)
    ∙ option_or-None (block_in before input tick))

-- nothing at all changes
pub idle_ready : (s : SetupParts) (ticks workers : ℕ) (before : List AnsweredEvent) (event : Event)
    (old : Facts) → HasShape s → IsRun s ticks before
    → IsQuiet s event (answer_of s ticks before event) → IsReady s workers before old
    → ((input tick : ℕ) → set_by input tick (taken_by s ticks before event) ≡ None)
    → ((input : ℕ) → upto_by input event ≡ 0)
    → IsReady s workers (behind s ticks before event) old
idle_ready s ticks workers before event old some run is ready unset unclosed =
    let t = taken_by s ticks before event in
    quiet_ready s ticks workers before event old old some run is ready refl refl refl refl
    (blocks_stay before t (set_at old.blocks.items) unset ready.blocks)
    (ready.closings ∙ sym (closings_stay before t (length s.device.inputs) unclosed))

-- ---- the events

pub over_ready : (s : SetupParts) (ticks workers : ℕ) (before : List AnsweredEvent) (worker : ℕ)
    (old : Facts) → HasShape s → IsRun s ticks before
    → answer_of s ticks before (Claim worker) ≡ Over → IsReady s workers before old
    → IsReady s workers (behind s ticks before (Claim worker)) old
over_ready s ticks workers before worker old some run is ready =
    idle_ready s ticks workers before (Claim worker) old some run
    (record {
      undrawn = rw is refl;
      uncalled = λ journal. refl;
      silent = refl;
      blind = λ w k input o. refl;
    }) ready
    (λ input tick. rw is refl) (λ input. refl)

pub unseen_ready : (s : SetupParts) (ticks workers : ℕ) (before : List AnsweredEvent)
    (worker at : ℕ)
    (old : Facts) → HasShape s → IsRun s ticks before
    → saw (answer_of s ticks before (Look worker at)) ≡ false
    → is_done (answer_of s ticks before (Look worker at)) ≡ false
    → IsReady s workers before old → IsReady s workers (behind s ticks before (Look worker at)) old
unseen_ready s ticks workers before worker at old some run blind undone ready =
    let t = taken_by s ticks before (Look worker at) in
    idle_ready s ticks workers before (Look worker at) old some run
    (record {
      undrawn = look_undrawn s before at (latest_of worker before);
      uncalled = λ journal. refl;
      silent = refl;
      blind = λ w k input o. unseen s w k input o t blind;
    }) ready (λ input tick. rw undone refl) (λ input. refl)

set_quiet : (s : SetupParts) (input tick : ℕ) (block : List ℤ) (answer : Answer)
    → drawn answer ≡ None → IsQuiet s (Set input tick block) answer
set_quiet s input tick block answer none =
    record { undrawn = none; uncalled = λ journal. refl; silent = refl; blind = λ w k i o. refl }

pub unset_ready : (s : SetupParts) (ticks workers : ℕ) (before : List AnsweredEvent)
    (input tick : ℕ)
    (block : List ℤ) (old : Facts) → HasShape s
    → IsRun s ticks before
    → drawn (answer_of s ticks before (Set input tick block)) ≡ None
    → is_done (answer_of s ticks before (Set input tick block)) ≡ false
    → IsReady s workers before old
    → IsReady s workers (behind s ticks before (Set input tick block)) old
unset_ready s ticks workers before input tick block old some run none undone ready =
    idle_ready s ticks workers before (Set input tick block) old some run
    (set_quiet s input tick block (answer_of s ticks before (Set input tick block)) none) ready
    (λ i t. rw undone refl) (λ i. refl)

-- a block that is set where none is, beside what is there
put_beside : (o : Option (List ℤ)) (here : Bool) (block : List ℤ) → (here ≡ true → o ≡ None)
    → (if here then Some block else o) ≡ option_or o (if here then Some block else None)
put_beside None true block free = refl
put_beside (Some b) true block free = absurd (let e = free refl in cc)
put_beside o false block free = sym (option_or-None o)

is_here : (input tick i t : ℕ) → (eqb input i && eqb tick t) ≡ true → (input ≡ i) × (tick ≡ t)
is_here input tick i t h = let p = and_parts (eqb input i) (eqb tick t) h in
    (eqb-true input i p.0, eqb-true tick t p.1)

pub set_ready : (s : SetupParts) (ticks workers : ℕ) (before : List AnsweredEvent) (input tick : ℕ)
    (block : List ℤ) (old new : Facts) → HasShape s
    → IsRun s ticks before
    → answer_of s ticks before (Set input tick block) ≡ Done → block_in before input tick ≡ None
    → new.desk ≡ old.desk → new.sights ≡ old.sights → new.history ≡ old.history
    → length new.blocks.items ≡ length old.blocks.items
    → ((i t : ℕ) → set_at new.blocks.items i t
    ≡ (if eqb input i && eqb tick t then Some block else set_at old.blocks.items i t))
    → new.closings ≡ old.closings → IsReady s workers before old
    → IsReady s workers (behind s ticks before (Set input tick block)) new
set_ready s ticks workers before input tick block old new some run is free desk sights history
    inputs put closings ready =
    let t = taken_by s ticks before (Set input tick block) in
    quiet_ready s ticks workers before (Set input tick block) old new some run
    (set_quiet s input tick block (answer_of s ticks before (Set input tick block)) (rw is refl))
    ready
    desk sights history inputs
    (λ i at.
    let here = eqb input i && eqb tick at in
    let own : set_by i at t ≡ (if here then Some block else None) = rw is refl in
    put i at ∙ ap (λ (o : Option (List ℤ)). if here then Some block else o) (ready.blocks i at)
    ∙ put_beside (block_in before i at) here block
    (λ h. let p = is_here input tick i at h in
    both (λ (x y : ℕ). block_in before x y) (sym p.0) (sym p.1) ∙ free)
    ∙ ap (option_or (block_in before i at)) (sym own) ∙ sym (block_more before t i at))
    (closings ∙ ready.closings ∙ sym (closings_stay before t (length s.device.inputs) (λ i. refl)))

pub close_ready : (s : SetupParts) (ticks workers : ℕ) (before : List AnsweredEvent)
    (input upto : ℕ)
    (old new : Facts) → HasShape s
    → IsRun s ticks before → input < length s.device.inputs
    → new.desk ≡ old.desk → new.sights ≡ old.sights → new.history ≡ old.history
    → new.blocks ≡ old.blocks
    → new.closings ≡ set old.closings input (max (closing_in before input) upto)
    → IsReady s workers before old
    → IsReady s workers (behind s ticks before (Close input upto)) new
close_ready s ticks workers before input upto old new some run lt desk sights history blocks
    closings ready =
    let t = taken_by s ticks before (Close input upto) in
    let here : eqb input input ≡ true = eq-eqb input input refl in
    quiet_ready s ticks workers before (Close input upto) old new some run
    (record { undrawn = refl; uncalled = λ journal. refl; silent = refl; blind = λ w k i o. refl })
    ready
    desk sights history (rw blocks refl)
    (λ i at. rw blocks
    (blocks_stay before t (set_at old.blocks.items) (λ i at. refl) ready.blocks i at))
    (closings ∙ ap (λ (z : List ℕ). set z input (max (closing_in before input) upto)) ready.closings
    ∙ set_range (closing_in before) (closing_in (before ++ t ∷ [])) (length s.device.inputs) input
    (max (closing_in before input) upto) lt
    (sym (closing_more before t input ∙ rw here refl))
    (λ j within other.
    let off : eqb input j ≡ false = ne_eqb input j (λ e. other (sym e)) in
    sym (closing_more before t j
    ∙ max_none (closing_in before j) (upto_by j t.event) (rw off refl))))

-- whether a tick is closed
below_none : (tick : ℕ) → false ≡ ltb tick 0
below_none tick = sym (le-ltb tick 0 (omega arith))

closes_is : (input tick : ℕ) (event : Event)
    → closes input tick event ≡ ltb tick (upto_by input event)
closes_is input tick (Claim worker) = below_none tick
closes_is input tick (Look worker of) = below_none tick
closes_is input tick (Set of at block) = below_none tick
closes_is input tick (Close of upto) =
    elim (cases_Bool (eqb of input))
    [ inl hit ↦ rw hit refl | inr miss ↦ rw miss (below_none tick) ]
closes_is input tick (Call client request) = below_none tick

ltb_max : (t a b : ℕ) → (ltb t a || ltb t b) ≡ ltb t (max a b)
ltb_max t a b = elim (cases_lt t a) [
  | inl lt ↦ rw (lt-ltb t a lt, lt-ltb t (max a b) (omega (arith, lt))) refl
  | inr ge ↦ elim (cases_lt t b) [
    | inl lt ↦ rw (le-ltb t a ge, lt-ltb t b lt, lt-ltb t (max a b) (omega (arith, lt))) refl
    | inr le ↦ rw (le-ltb t a ge, le-ltb t b le, le-ltb t (max a b) (omega (arith, ge, le))) refl
  ]
]

pub closed_is : (events : List AnsweredEvent) (input tick : ℕ)
    → is_closed events input tick ≡ ltb tick (closing_in events input)
closed_is [] input tick = below_none tick
closed_is (t ∷ events) input tick =
    both (λ (a b : Bool). a || b) (closes_is input tick t.event) (closed_is events input tick)
    ∙ ltb_max tick (upto_by input t.event) (closing_in events input)
