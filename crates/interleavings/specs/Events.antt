-- What a list of events with their answers tells, and what one more event is answered after it.
-- (This project's own.)
use Rattle.std.specs.Prelude.{◌≡◌, ℕ, ◌*◌, ◌&&◌, eqb, nat_lt, Bool, true, false, List, [], ◌∷◌}
use Rattle.std.specs.Prelude.{◌++◌, length, Option, Some, None, ◌<◌, is_some, if◌then◌else◌}
use Rattle.std.specs.Prelude.{count_by, take, slice_get, ℤ, All}
use Rattle.std.specs.List.{list_any}
use Rattle.std.specs.Option.{option_or, option_to_list}
use Rattle.rtp_pcm.specs.Pcm.{IsSample}
use Rattle.map_entry.specs.Row.{channels_of}
use Rattle.map_entry.specs.Setup.{SetupParts}
use Rattle.book_words.specs.declared.calls.JournalCall.{JournalCall}
use Rattle.book_words.specs.declared.requests.Request.{Request}
use Rattle.plain_book.specs.Book.{reply_of, call_of, first_some}
use Rattle.book_words.specs.History.{stamp}
use Rattle.plain_book.specs.Time.{tick_of_claim}
use Rattle.interleavings.specs.declared.events.Event.{Event}
use Rattle.interleavings.specs.declared.events.Event.TheVariants.{Claim, Look, Set, Close, Call}
use Rattle.interleavings.specs.declared.events.Answer.{Answer}
use Rattle.interleavings.specs.declared.events.Answer.TheVariants.{Claimed, Over, Seen, Nothing}
use Rattle.interleavings.specs.declared.events.Answer.TheVariants.{Done, AlreadySet, Closed}
use Rattle.interleavings.specs.declared.events.Answer.TheVariants.{Replied}
use Rattle.interleavings.specs.declared.events.AnsweredEvent.{AnsweredEvent}

-- an event with its answer
abbrev pub taken : Event → Answer → AnsweredEvent
taken event answer = record { event = event; answer = answer }

-- ---- claims

-- the number that an answer gives, where it gives one
abbrev pub drawn : Answer → Option ℕ
drawn (Claimed k) = Some k
drawn Over = None
drawn (Seen present) = None
drawn Nothing = None
drawn Done = None
drawn AlreadySet = None
drawn Closed = None
drawn (Replied reply stamp) = None

-- how many claims were made
abbrev pub claims_in : List AnsweredEvent → ℕ
claims_in events = count_by (λ t. is_some (drawn t.answer)) events

-- whether an event is a claim of this worker
abbrev pub is_claim_of : ℕ → Event → Bool
is_claim_of worker (Claim of) = eqb of worker
is_claim_of worker (Look of input) = false
is_claim_of worker (Set input tick block) = false
is_claim_of worker (Close input upto) = false
is_claim_of worker (Call client request) = false

-- the number that a worker drew by an event, where it drew one
abbrev pub drawn_by : ℕ → AnsweredEvent → Option ℕ
drawn_by worker t = if is_claim_of worker t.event then drawn t.answer else None

-- a worker's latest claim
abbrev pub latest_of : ℕ → List AnsweredEvent → Option ℕ
latest_of worker [] = None
latest_of worker (t ∷ events) = option_or (latest_of worker events) (drawn_by worker t)

-- ---- blocks

-- whether an answer says that what was asked is done
abbrev pub is_done : Answer → Bool
is_done (Claimed k) = false
is_done Over = false
is_done (Seen present) = false
is_done Nothing = false
is_done Done = true
is_done AlreadySet = false
is_done Closed = false
is_done (Replied reply stamp) = false

-- the block to which an event would set an input at a tick, where it would
abbrev pub block_by : ℕ → ℕ → Event → Option (List ℤ)
block_by input tick (Claim worker) = None
block_by input tick (Look worker of) = None
block_by input tick (Set of at block) = if eqb of input && eqb at tick then Some block else None
block_by input tick (Close of upto) = None
block_by input tick (Call client request) = None

-- the block of an input at a tick: the one to which a set that was done set it
abbrev pub block_in : List AnsweredEvent → ℕ → ℕ → Option (List ℤ)
block_in events input tick =
    first_some (λ t. if is_done t.answer then block_by input tick t.event else None) events

-- whether an event closes an input's tick: all ticks below its number are closed
abbrev pub closes : ℕ → ℕ → Event → Bool
closes input tick (Claim worker) = false
closes input tick (Look worker of) = false
closes input tick (Set of at block) = false
closes input tick (Close of upto) = eqb of input && nat_lt tick upto
closes input tick (Call client request) = false

-- whether an input's tick is closed
abbrev pub is_closed : List AnsweredEvent → ℕ → ℕ → Bool
is_closed events input tick = list_any (λ t. closes input tick t.event) events

-- ---- calls

-- the call that a client's request became by its answer, where it became one
abbrev pub call_by : SetupParts → List JournalCall → ℕ → Request → Answer → Option JournalCall
call_by s journal client request (Claimed k) = None
call_by s journal client request Over = None
call_by s journal client request (Seen present) = None
call_by s journal client request Nothing = None
call_by s journal client request Done = None
call_by s journal client request AlreadySet = None
call_by s journal client request Closed = None
call_by s journal client request (Replied reply stamp) =
    call_of s journal client stamp.claims request reply

-- the call that an event became by its answer, after a journal, where it became one
abbrev pub call_in : SetupParts → List JournalCall → Event → Answer → Option JournalCall
call_in s journal (Claim worker) answer = None
call_in s journal (Look worker input) answer = None
call_in s journal (Set input tick block) answer = None
call_in s journal (Close input upto) answer = None
call_in s journal (Call client request) answer = call_by s journal client request answer

-- a journal, and the calls that were accepted after it
abbrev pub journal_from : SetupParts → List JournalCall → List AnsweredEvent → List JournalCall
journal_from s journal [] = journal
journal_from s journal (t ∷ events) =
    journal_from s (journal ++ option_to_list (call_in s journal t.event t.answer)) events

-- the calls that were accepted, in order
abbrev pub journal_in : SetupParts → List AnsweredEvent → List JournalCall
journal_in s events = journal_from s [] events

-- ---- answers

-- what a look is answered by the worker's latest claim: whether the block of the input is there at
-- its tick
abbrev pub look_answer : SetupParts → List AnsweredEvent → ℕ → Option ℕ → Answer
look_answer s events input None = Nothing
look_answer s events input (Some k) = Seen (is_some (block_in events input (tick_of_claim s k)))

-- What an event is answered after these, in a session of a given number of ticks. A claim: how many
-- were made before, or `Over` where all packets are claimed. A look: whether the block is there, or
-- `Nothing` where the worker has no claim. A set: `AlreadySet` where the block is there, else
-- `Closed` where the tick is closed. A call: the one-thread book's reply at the calls and claims so
-- far.
abbrev pub answer_of : SetupParts → ℕ → List AnsweredEvent → Event → Answer
answer_of s ticks events (Claim worker) =
    if nat_lt (claims_in events) (ticks * length s.device.outputs) then Claimed (claims_in events)
    else Over
answer_of s ticks events (Look worker input) = look_answer s events input (latest_of worker events)
answer_of s ticks events (Set input tick block) =
    if is_some (block_in events input tick) then AlreadySet
    else (if is_closed events input tick then Closed else Done)
answer_of s ticks events (Close input upto) = Done
answer_of s ticks events (Call client request) =
    Replied (reply_of s (journal_in s events) (claims_in events) request)
    (stamp (length (journal_in s events)) (claims_in events))

-- an event with the answer that it is given after these
abbrev pub taken_by : SetupParts → ℕ → List AnsweredEvent → Event → AnsweredEvent
taken_by s ticks events event = taken event (answer_of s ticks events event)

-- each event has the answer that it is given after those before it
abbrev pub IsRun : SetupParts → ℕ → List AnsweredEvent → Type 0
IsRun s ticks events =
    (k : ℕ) (t : AnsweredEvent) → slice_get events k ≡ Some t
    → t.answer ≡ answer_of s ticks (take k events) t.event

-- these, and further events, each with the answer that it is given after those before it
abbrev pub run_from : SetupParts → ℕ → List AnsweredEvent → List Event → List AnsweredEvent
run_from s ticks before [] = before
run_from s ticks before (event ∷ events) =
    run_from s ticks (before ++ taken_by s ticks before event ∷ []) events

-- the run of these events
unfoldable pub run_of : SetupParts → ℕ → List Event → List AnsweredEvent
run_of s ticks events = run_from s ticks [] events

-- ---- the numbers that an event may have

-- a block has a signed 24-bit sample for each channel of each frame of a tick
pub record HasShape (s : SetupParts) (input : ℕ) (block : List ℤ) : Type 0 where
  pub long : length block ≡ s.device.rate.frames * channels_of s.device.inputs input
  pub samples : All IsSample block

-- workers and inputs are there, and a block has its input's shape
abbrev pub IsInRange : SetupParts → ℕ → Event → Type 0
IsInRange s workers (Claim worker) = (worker < workers)
IsInRange s workers (Look worker input) = (worker < workers) × (input < length s.device.inputs)
IsInRange s workers (Set input tick block) =
    (input < length s.device.inputs) × HasShape s input block
IsInRange s workers (Close input upto) = (input < length s.device.inputs)
IsInRange s workers (Call client request) = Unit {0}
