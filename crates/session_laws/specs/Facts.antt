-- What running tables and their book leave once every job is back: facts on plain values, each told
-- by single calls or kept by a job. A session on tables that go on one after the other, in laps,
-- has one lap or more. (This project's own.)
use Rattle.std.specs.Prelude.{◌≡◌, ℕ, ◌+◌, ◌*◌, ◌<◌, ◌≤◌, nat_lt, Bool, true, List, [], ◌∷◌, ◌++◌}
use Rattle.std.specs.Prelude.{length, filter, All, Option, IfSome, is_some, ℤ}
use Rattle.std.specs.List.{AllZip}
use Rattle.io_caps.specs.declared.device.DeviceParts.{DeviceParts}
use Rattle.map_entry.specs.declared.entry.Entry.{Entry}
use Rattle.map_entry.specs.Row.{channels_of}
use Rattle.map_entry.specs.Setup.{SetupParts}
use Rattle.packet_writer.specs.Flags.{AreClosed, AreFree, Sights}
use Rattle.packet_writer.specs.Packet.{Blocks, packet_by}
use Rattle.claim_rule.specs.declared.plan.Plan.{Plan}
use Rattle.claim_rule.specs.declared.view.Draw.{Draw}
use Rattle.claim_rule.specs.Rule.{IsGood}
use Rattle.claim_rule.specs.Views.{once_below, times}
use Rattle.input_rule.specs.declared.view.HeardSample.{HeardSample}
use Rattle.input_rule.specs.declared.view.Look.{Look}
use Rattle.input_cells.specs.Agreement.{Agrees}
use Rattle.book_words.specs.declared.calls.JournalCall.{JournalCall}
use Rattle.book_words.specs.declared.given.Given.{Given}
use Rattle.book_words.specs.declared.history.ClaimItem.{ClaimItem}
use Rattle.book_words.specs.declared.history.History.{History}
use Rattle.book_words.specs.declared.requests.Request.{Request}
use Rattle.book_words.specs.History.{history_of}
use Rattle.plain_book.specs.Given.{AreGiven, replies_of}
use Rattle.plain_book.specs.Journal.{entries_of}
use Rattle.plain_book.specs.Rows.{SelectsAlike}
use Rattle.interleavings.specs.Legal.{Form, IsLegalHistory, StandsThere, asks_itself, says_reply}
use Rattle.interleavings.specs.Told.{Ask, requests_of}

-- ---- two ways to gather

-- How workers gather packets: in closed form, by looks at closed ticks; or in free form, by what
-- was seen when they looked.
pub data Gathering : Type 0 where
  GatherClosed : Gathering
  GatherFree : Sights → Gathering

-- the flags that a way allows, by a list of entries and blocks
abbrev pub form_by : SetupParts → Gathering → List Entry → Blocks → Form
form_by s GatherClosed entries blocks = AreClosed s entries blocks
form_by s (GatherFree seen) entries blocks = AreFree s seen entries blocks

-- What a way asks of a block that was set, beside the input's: to be the same, and none where the
-- input has none; in free form only where one was set.
abbrev pub IsFedAs : Gathering → Option (List ℤ) → Option (List ℤ) → Type 0
IsFedAs GatherClosed set block = set ≡ block
IsFedAs (GatherFree seen) set block = is_some set ≡ true → set ≡ block

-- ---- draws on a table of claims

-- All draws on a table with this list, of whose packets a given number were claimed: each is good,
-- each number below those drawn stands once among them, and no other; and that many packets were
-- drawn.
pub record IsEnded (plan : Plan) (made : ℕ) (list : List Entry) (draws : List Draw)
    : Type 0 where
  pub drawn : ℕ
  pub good : All (IsGood plan list drawn) draws
  pub once : (number : ℕ) → times number draws ≡ once_below number drawn
  pub full : made ≤ drawn

-- ---- the inputs' blocks

-- each block that is there has the shape of its input
abbrev pub HaveShapes : DeviceParts → Blocks → Type 0
HaveShapes d blocks =
    (input tick : ℕ) → input < length d.inputs
    → IfSome (blocks input tick)
    (λ samples. length samples ≡ d.rate.frames * channels_of d.inputs input)

-- At a given number of ticks from a first one on, the blocks that were set are the inputs' as the
-- way to gather asks.
abbrev pub IsFed : SetupParts → Gathering → ℕ → ℕ → Blocks → Blocks → Type 0
IsFed s g first ticks set blocks =
    (input tick : ℕ) → input < length s.device.inputs → first ≤ tick → tick < first + ticks
    → IsFedAs g (set input tick) (blocks input tick)

-- ---- what a worker made

-- what a worker's job leaves: the draws of its passes, what these saw, and the claims that it made
pub record Made : Type 0 where
  pub draws : List Draw
  pub looks : List Look
  pub heard : List HeardSample
  pub items : List ClaimItem

-- the draws of all workers
abbrev pub draws_of : List Made → List Draw
draws_of [] = []
draws_of (w ∷ ws) = w.draws ++ draws_of ws

-- the claims of all workers
abbrev pub items_of : List Made → List ClaimItem
items_of [] = []
items_of (w ∷ ws) = w.items ++ items_of ws

-- the claim of a draw, by the entries that it found and over blocks: its number, flags that the way
-- allows, and its packet
pub record IsItem (s : SetupParts) (g : Gathering) (blocks : Blocks) (from : ℕ) (d : Draw)
    (item : ClaimItem) : Type 0 where
  pub number : item.k ≡ from + d.number
  pub flags : form_by s g d.found blocks item.k item.found
  pub packet : item.packet ≡ packet_by s d.found blocks item.found item.k

-- whether a draw is one of a given number of packets
abbrev pub is_packet : ℕ → Draw → Bool
is_packet packets d = nat_lt d.number packets

-- the claims of those draws that are packets, in order, over any blocks that agree with what the
-- worker saw
abbrev pub IsWorked : SetupParts → Gathering → ℕ → ℕ → Made → Type 0
IsWorked s g from packets w =
    (blocks : Blocks) → Agrees s.device w.looks w.heard blocks
    → AllZip (IsItem s g blocks from) (filter (is_packet packets) w.draws) w.items

-- ---- laps

-- What a lap leaves: how many ticks lie before it, how many its tables have, how many claims were
-- made in it, what the book answered in it, the whole journal at its end, and what its workers
-- made.
pub record Lap : Type 0 where
  pub before : ℕ
  pub ticks : ℕ
  pub made : ℕ
  pub given : List Given
  pub journal : List JournalCall
  pub workers : List Made

-- the first claim of a lap
abbrev pub first_claim : SetupParts → Lap → ℕ
first_claim s l = l.before * length s.device.outputs

-- A lap on its tables: as many of its packets were claimed as claims were made, all or, where it
-- ends early, fewer. The list of the table of claims selects what the journal at the lap's end
-- selects; and the blocks set agree with what each worker saw, and are the inputs'.
pub record IsLap (s : SetupParts) (g : Gathering) (blocks : Blocks) (l : Lap) : Type 0 where
  pub plan : Plan
  pub setup_is : plan.setup ≡ s
  pub from_is : plan.from ≡ first_claim s l
  pub packets_are : plan.packets ≡ l.ticks * length s.device.outputs
  pub most : l.made ≤ plan.packets
  pub list : List Entry
  pub set : Blocks
  pub ended : IsEnded plan l.made list (draws_of l.workers)
  pub rules : SelectsAlike s (first_claim s l) list l.journal
  pub worked : All (IsWorked s g (first_claim s l) l.made) l.workers
  pub read : All (λ w. Agrees s.device w.looks w.heard set) l.workers
  pub fed : IsFed s g (s.device.base + l.before) l.ticks set blocks

-- Laps one after the other, which lead from a number of claims and a journal to others: each
-- begins with a tick, at the claims so far; and its book goes on from the journal so far, with no
-- answer before the lap's first claim or after its last.
abbrev pub AreLaps : SetupParts → Gathering → Blocks → ℕ → List JournalCall → List Lap → ℕ
    → List JournalCall → Type 0
AreLaps s g blocks from journal [] claims last = (from ≡ claims) × (journal ≡ last)
AreLaps s g blocks from journal (l ∷ ls) claims last =
    (from ≡ first_claim s l)
    × (IsLap s g blocks l
    × (AreGiven s journal from l.given l.journal (from + l.made)
    × AreLaps s g blocks (from + l.made) l.journal ls claims last))

-- what was answered in all laps
abbrev pub given_in_laps : List Lap → List Given
given_in_laps [] = []
given_in_laps (l ∷ ls) = l.given ++ given_in_laps ls

-- the claims of all laps
abbrev pub items_in_laps : List Lap → List ClaimItem
items_in_laps [] = []
items_in_laps (l ∷ ls) = items_of l.workers ++ items_in_laps ls

-- A session: its laps from the first claim and no call on, and then the book's answers to the asks
-- that are left, with all claims made. What each client asked is what was answered in the laps and
-- what was left then, in order.
pub record IsSession (s : SetupParts) (g : Gathering) (blocks : Blocks) (claims : ℕ)
    (asks : ℕ → List Request) (laps : List Lap) (late : List Given) (last : List JournalCall)
    : Type 0 where
  pub journal : List JournalCall
  pub left : ℕ → List Request
  pub laps_are : AreLaps s g blocks 0 [] laps claims journal
  pub late_are : AreGiven s journal claims late last claims
  pub shared : (client : ℕ) → requests_of (given_in_laps laps) client ++ left client ≡ asks client
  pub rest : (client : ℕ) → requests_of late client ≡ left client

-- all answers of a session
abbrev pub given_in_all : List Lap → List Given → List Given
given_in_all laps late = given_in_laps laps ++ late

-- the history of claims, of answers in their order, and of the calls accepted
abbrev pub history_by_given : List ClaimItem → List Given → List JournalCall → History
history_by_given claims given last = history_of claims last (replies_of given)

-- a history of plain requests that is legal by a way to gather
abbrev pub IsLegalBy : SetupParts → Gathering → ℕ → Blocks → (ℕ → List Request) → History → Type 0
IsLegalBy s g claims blocks asks h =
    IsLegalHistory s asks_itself says_reply StandsThere claims blocks
    (form_by s g (entries_of s h.journal) blocks) asks h

-- a history of asks of any kind that is legal by a way to gather
abbrev pub IsToldBy : SetupParts → Gathering → ℕ → Blocks → (ℕ → List Ask) → History → Type 0
IsToldBy s g claims blocks asks h =
    IsLegalHistory s (λ ask. ask.asked) (λ ask. ask.says) StandsThere claims blocks
    (form_by s g (entries_of s h.journal) blocks) asks h

-- there is a session of a given number of claims over blocks, which leaves these answers, this
-- journal, and no ask
abbrev pub HasSession : SetupParts → Gathering → Blocks → ℕ → List Given → List JournalCall → Type 0
HasSession s g blocks claims given journal =
    (laps : List Lap) × IsSession s g blocks claims (requests_of given) laps [] journal
