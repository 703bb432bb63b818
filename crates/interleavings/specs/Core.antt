-- What contracts see of a core, and what it keeps so that it needs no event again. (This
-- project's own.)
use Rattle.std.specs.Prelude.{◌≡◌, ℕ, ◌≤◌, max, eqb, Bool, false, List, [], ◌∷◌, ◌++◌, length, map}
use Rattle.std.specs.Prelude.{All, Option, Some, None, slice_get, if◌then◌else◌, ℤ}
use Rattle.std.specs.BTreeMap.{BTreeMap, get}
use Rattle.std.specs.List.{range_with_len}
use Rattle.std.specs.Option.{option_map_or, option_to_list}
use Rattle.std.specs.Ordering.{nat_cmp}
use Rattle.io_caps.specs.declared.limits.TheConstants.{SESSION_TICKS}
use Rattle.map_entry.specs.declared.cell.Cell.{Cell}
use Rattle.map_entry.specs.declared.entry.Entry.{Entry}
use Rattle.map_entry.specs.Row.{channels_of}
use Rattle.map_entry.specs.Setup.{IsSetup, SetupParts}
use Rattle.packet_writer.specs.Heard.{HasFrames}
use Rattle.packet_writer.specs.Packet.{Blocks, claim_rows}
use Rattle.book_words.specs.declared.history.ReplyItem.{ReplyItem}
use Rattle.book_words.specs.declared.history.Said.TheVariants.{Plain}
use Rattle.book_words.specs.declared.requests.Request.{Request}
use Rattle.plain_book.specs.Book.{call_of, reply_of}
use Rattle.plain_book.specs.Desk.{DeskParts, desk_parts}
use Rattle.book_words.specs.History.{reply_item, stamp}
use Rattle.plain_book.specs.Time.{tick_of_claim}
use Rattle.interleavings.specs.declared.events.Answer.{Answer}
use Rattle.interleavings.specs.declared.events.Event.{Event}
use Rattle.interleavings.specs.declared.events.Event.TheVariants.{Claim, Look, Set, Close, Call}
use Rattle.interleavings.specs.declared.events.AnsweredEvent.{AnsweredEvent}
use Rattle.interleavings.specs.declared.facts.Facts.{Facts}
use Rattle.interleavings.specs.declared.facts.Session.{Session}
use Rattle.interleavings.specs.declared.facts.Sight.{Sight}
use Rattle.interleavings.specs.Events.{IsInRange, answer_of, block_in, claims_in, journal_in}
use Rattle.interleavings.specs.Events.{latest_of, run_of}
use Rattle.interleavings.specs.Legal.{IsFreeHistory}
use Rattle.interleavings.specs.Run.{asks_in, has_seen, history_in, seen_from}

-- ---- the core as it is seen

-- its setup, how many ticks and workers it is for, and its events, each with its answer
pub record CoreParts : Type 0 where
  pub setup : SetupParts
  pub ticks : ℕ
  pub workers : ℕ
  pub taken : List AnsweredEvent

-- the core of these parts
abbrev pub core_parts : SetupParts → ℕ → ℕ → List AnsweredEvent → CoreParts
core_parts setup ticks workers taken =
    record {
      setup = setup;
      ticks = ticks;
      workers = workers;
      taken = taken;
    }

-- The history of a core's events is legal, in free form: with the claims made, over the blocks that
-- were set, by what the workers saw, and of the requests of each client.
abbrev pub IsLegalCore : CoreParts → Type 0
IsLegalCore c =
    IsFreeHistory c.setup (claims_in c.taken) (block_in c.taken) (has_seen c.setup c.taken)
    (asks_in c.taken) (history_in c.setup c.taken)

-- ---- the book

-- a book's reply to a client's request, as an item of a history
abbrev pub plain_item : DeskParts → ℕ → Request → ReplyItem
plain_item d client request =
    reply_item client (stamp (length d.journal) d.claims)
    (Plain (reply_of d.setup d.journal d.claims request))

-- a book after a client's request: with its call, where the book accepts one
abbrev pub desk_after : DeskParts → ℕ → Request → DeskParts
desk_after d client request =
    let reply = reply_of d.setup d.journal d.claims request in
    let call = call_of d.setup d.journal client d.claims request reply in
    desk_parts d.setup d.claims (d.journal ++ option_to_list call)

-- ---- what workers saw

-- whether a worker saw the block of an input for its latest claim
abbrev pub sees : SetupParts → List AnsweredEvent → ℕ → ℕ → Bool
sees s taken worker input =
    option_map_or (λ k. seen_from s worker k input None taken) (latest_of worker taken) false

-- a worker's latest claim, and what it saw for that claim
abbrev pub sight_in : SetupParts → List AnsweredEvent → ℕ → Sight
sight_in s taken worker =
    record {
      latest = latest_of worker taken;
      seen = map (sees s taken worker) (range_with_len 0 (length s.device.inputs));
    }

-- the same value a given number of times
abbrev pub repeated : {A : Type 0} → A → ℕ → List A
repeated value count = map (λ i. value) (range_with_len 0 count)

-- the sight of a worker without a claim
abbrev pub no_sight : ℕ → Sight
no_sight inputs = record { latest = None; seen = repeated false inputs }

-- what a worker saw for a claim that it draws, where this is its sight: what it saw for a claim of
-- the same tick
abbrev pub inherited : SetupParts → Option ℕ → List Bool → ℕ → List Bool
inherited s None seen k = repeated false (length s.device.inputs)
inherited s (Some j) seen k =
    if eqb (tick_of_claim s j) (tick_of_claim s k) then seen
    else repeated false (length s.device.inputs)

-- ---- blocks and closings

-- the blocks of a table, by input and tick
abbrev pub set_at : List (BTreeMap ℕ (List ℤ)) → Blocks
set_at table input tick =
    option_map_or (λ blocks. get nat_cmp blocks tick) (slice_get table input) None

-- each block has all frames of a tick
abbrev pub AreWhole : SetupParts → Blocks → Type 0
AreWhole s blocks =
    (input tick : ℕ)
    → HasFrames (blocks input tick) (channels_of s.device.inputs input) s.device.rate.frames

-- the number below which an event closes an input's ticks
abbrev pub upto_by : ℕ → Event → ℕ
upto_by input (Claim worker) = 0
upto_by input (Look worker of) = 0
upto_by input (Set of at block) = 0
upto_by input (Close of upto) = if eqb of input then upto else 0
upto_by input (Call client request) = 0

-- the number below which an input's ticks are closed
abbrev pub closing_in : List AnsweredEvent → ℕ → ℕ
closing_in [] input = 0
closing_in (t ∷ taken) input = max (upto_by input t.event) (closing_in taken input)

-- ---- claims

-- the row that a list of entries selects for a claim is this one at each frame
abbrev pub HasRow : SetupParts → List Entry → ℕ → List Cell → Type 0
HasRow s entries k row = (frame : ℕ) → claim_rows s entries k frame ≡ row

-- what is kept is enough to show a claim: the book is this setup's, and the blocks have all frames
-- of a tick
pub record CanShow (c : Session) (facts : Facts) : Type 0 where
  pub desk : facts.desk.setup ≡ c.setup
  pub blocks : AreWhole c.setup (set_at facts.blocks.items)

-- ---- what is kept

-- it tells the same as the events with their answers
pub record IsReady (s : SetupParts) (workers : ℕ) (taken : List AnsweredEvent) (facts : Facts)
    : Type 0 where
  pub desk : facts.desk ≡ desk_parts s (claims_in taken) (journal_in s taken)
  pub sights : facts.sights ≡ map (sight_in s taken) (range_with_len 0 workers)
  pub inputs : length facts.blocks.items ≡ length s.device.inputs
  pub blocks : (input tick : ℕ) → set_at facts.blocks.items input tick ≡ block_in taken input tick
  pub closings : facts.closings ≡ map (closing_in taken) (range_with_len 0 (length s.device.inputs))
  pub history : facts.history ≡ history_in s taken

-- the events of a session with their answers
abbrev pub taken_in : Session → List Event → List AnsweredEvent
taken_in c events = run_of c.setup c.ticks events

-- the answer to one more event
abbrev pub next_answer : Session → List Event → Event → Answer
next_answer c events event = answer_of c.setup c.ticks (taken_in c events) event

-- the core of a session's events
abbrev pub core_of : Session → List Event → CoreParts
core_of c events = core_parts c.setup c.ticks c.workers (taken_in c events)

-- what holds of a core's session, its events, and what it keeps
pub record IsCore (c : Session) (events : List Event) (facts : Facts) : Type 0 where
  pub setup : IsSetup c.setup
  pub few : c.ticks ≤ SESSION_TICKS
  pub range : All (IsInRange c.setup c.workers) events
  pub ready : IsReady c.setup c.workers (taken_in c events) facts
