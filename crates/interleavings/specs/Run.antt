-- The history of a list of events with their answers. (This project's own.)
use Rattle.std.specs.Prelude.{ℕ, ◌&&◌, ◌||◌, eqb, nat_lt, not, Bool, false, List, [], ◌∷◌, length}
use Rattle.std.specs.Prelude.{map, filter_map, Option, Some, None, option_map, slice_index_or}
use Rattle.std.specs.Prelude.{if◌then◌else◌}
use Rattle.std.specs.List.{range_with_len}
use Rattle.std.specs.Option.{option_or}
use Rattle.map_entry.specs.Setup.{SetupParts}
use Rattle.packet_writer.specs.Flags.{Sights, names_by}
use Rattle.packet_writer.specs.Packet.{Blocks}
use Rattle.book_words.specs.declared.calls.JournalCall.{JournalCall}
use Rattle.book_words.specs.declared.history.ClaimItem.{ClaimItem}
use Rattle.book_words.specs.declared.history.History.{History}
use Rattle.book_words.specs.declared.history.ReplyItem.{ReplyItem}
use Rattle.book_words.specs.declared.history.Said.TheVariants.{Plain}
use Rattle.book_words.specs.declared.requests.Request.{Request}
use Rattle.book_words.specs.History.{claim_item, history_of, in_order, reply_item}
use Rattle.plain_book.specs.Journal.{entries_of}
use Rattle.plain_book.specs.Time.{tick_of_claim}
use Rattle.interleavings.specs.declared.events.Event.{Event}
use Rattle.interleavings.specs.declared.events.Event.TheVariants.{Claim, Look, Set, Close, Call}
use Rattle.interleavings.specs.declared.events.Answer.{Answer}
use Rattle.interleavings.specs.declared.events.Answer.TheVariants.{Claimed, Over, Seen, Nothing}
use Rattle.interleavings.specs.declared.events.Answer.TheVariants.{Done, AlreadySet, Closed}
use Rattle.interleavings.specs.declared.events.Answer.TheVariants.{Replied}
use Rattle.interleavings.specs.declared.events.AnsweredEvent.{AnsweredEvent}
use Rattle.interleavings.specs.Events.{block_in, claims_in, drawn, drawn_by, journal_in}
use Rattle.interleavings.specs.Legal.{packet_of}

-- ---- what was seen

-- whether an event is a look of this worker at this input
abbrev pub looks : ℕ → ℕ → Event → Bool
looks worker input (Claim of) = false
looks worker input (Look of at) = eqb of worker && eqb at input
looks worker input (Set at tick block) = false
looks worker input (Close at upto) = false
looks worker input (Call client request) = false

-- whether an answer says that a block was seen
abbrev pub saw : Answer → Bool
saw (Claimed k) = false
saw Over = false
saw (Seen present) = present
saw Nothing = false
saw Done = false
saw AlreadySet = false
saw Closed = false
saw (Replied reply stamp) = false

-- whether a look of a worker with this latest claim is for claim k: it is at its tick, and before
-- the worker claims after k
abbrev pub is_for : SetupParts → ℕ → Option ℕ → Bool
is_for s k None = false
is_for s k (Some j) = not (nat_lt k j) && eqb (tick_of_claim s j) (tick_of_claim s k)

-- whether a worker with this latest claim sees the block of an input for claim k by an event
abbrev pub sees_by : SetupParts → ℕ → ℕ → ℕ → Option ℕ → AnsweredEvent → Bool
sees_by s worker k input latest t =
    looks worker input t.event && (saw t.answer && is_for s k latest)

-- whether it does by one of these events, with this latest claim before them
abbrev pub seen_from : SetupParts → ℕ → ℕ → ℕ → Option ℕ → List AnsweredEvent → Bool
seen_from s worker k input latest [] = false
seen_from s worker k input latest (t ∷ events) =
    sees_by s worker k input latest t
    || seen_from s worker k input (option_or (drawn_by worker t) latest) events

-- the worker of a claim; other events have none, and 0 stands for it
abbrev pub claimer : Event → ℕ
claimer (Claim worker) = worker
claimer (Look worker input) = 0
claimer (Set input tick block) = 0
claimer (Close input upto) = 0
claimer (Call client request) = 0

-- the worker that drew a number by an event, where one did
abbrev pub draws : AnsweredEvent → Option ℕ
draws t = option_map (λ k. claimer t.event) (drawn t.answer)

-- the workers of the claims, in order
abbrev pub drawers : List AnsweredEvent → List ℕ
drawers events = filter_map draws events

-- the worker that drew a claim
abbrev pub worker_of : List AnsweredEvent → ℕ → ℕ
worker_of events k = slice_index_or (drawers events) k 0

-- whether the worker of a claim saw the block of an input at its tick, for this claim or an earlier
-- one
abbrev pub has_seen : SetupParts → List AnsweredEvent → Sights
has_seen s events k input = seen_from s (worker_of events k) k input None events

-- ---- the history

-- the flags of a claim: of the inputs that its packet names, by the whole journal, and of which
-- this was seen
abbrev pub seen_flags : SetupParts → List JournalCall → (ℕ → Bool) → ℕ → List Bool
seen_flags s journal seen k =
    map (λ input. names_by s (entries_of s journal) k input && seen input)
    (range_with_len 0 (length s.device.inputs))

-- claim k with these flags and its packet by the whole journal
abbrev pub claim_with : SetupParts → List JournalCall → Blocks → ℕ → List Bool → ClaimItem
claim_with s journal blocks k found = claim_item k found (packet_of s journal blocks found k)

-- claim k of these events: its flags are those of the blocks that its worker saw
abbrev pub claim_in : SetupParts → List JournalCall → List AnsweredEvent → ℕ → ClaimItem
claim_in s journal events k =
    claim_with s journal (block_in events) k (seen_flags s journal (has_seen s events k) k)

-- the reply of a call's answer, where it has one
abbrev pub reply_by : ℕ → Answer → Option ReplyItem
reply_by client (Claimed k) = None
reply_by client Over = None
reply_by client (Seen present) = None
reply_by client Nothing = None
reply_by client Done = None
reply_by client AlreadySet = None
reply_by client Closed = None
reply_by client (Replied reply stamp) = Some (reply_item client stamp (Plain reply))

-- the reply that an event got, where it is a call
abbrev pub reply_in : Event → Answer → Option ReplyItem
reply_in (Claim worker) answer = None
reply_in (Look worker input) answer = None
reply_in (Set input tick block) answer = None
reply_in (Close input upto) answer = None
reply_in (Call client request) answer = reply_by client answer

-- the replies as they were given
abbrev pub replies_given : List AnsweredEvent → List ReplyItem
replies_given events = filter_map (λ t. reply_in t.event t.answer) events

-- the history of these events: the claims made, the calls accepted, and the replies in order
unfoldable pub history_in : SetupParts → List AnsweredEvent → History
history_in s events =
    history_of (map (claim_in s (journal_in s events) events) (range_with_len 0 (claims_in events)))
    (journal_in s events) (in_order (replies_given events))

-- the request of an event, where it is a call of this client
abbrev pub ask_in : ℕ → Event → Option Request
ask_in client (Claim worker) = None
ask_in client (Look worker input) = None
ask_in client (Set input tick block) = None
ask_in client (Close input upto) = None
ask_in client (Call of request) = if eqb of client then Some request else None

-- the requests of a client, in order
abbrev pub asks_in : List AnsweredEvent → ℕ → List Request
asks_in events client = filter_map (λ t. ask_in client t.event) events
