-- What a claim says, and what a worker's pass keeps. (This project's own.)
use Rattle.std.specs.Prelude.{◌≡◌, ℕ, ◌+◌, ◌-◌, ◌*◌, ◌<◌, ◌≤◌, Bool, true, false, nat_lt, cond}
use Rattle.std.specs.Prelude.{List, [], map, filter, length, Some, slice_get}
use Rattle.std.specs.Prelude.{slice_index_or, MatchBool, vec_capacity}
use Rattle.std.specs.List.{All, AllZip, sum_by}
use Rattle.map_entry.specs.declared.cell.Cell.{Cell}
use Rattle.map_entry.specs.declared.entry.Entry.{Entry}
use Rattle.map_entry.specs.Entry.{selected, HasRowsFrom}
use Rattle.map_entry.specs.Row.{channels_of_output}
use Rattle.map_entry.specs.Setup.{HasCells}
use Rattle.map_entry.specs.Tick.{frame_key}
use Rattle.claim_rule.specs.declared.plan.Plan.{Plan}
use Rattle.claim_rule.specs.declared.view.View.{View}
use Rattle.claim_rule.specs.declared.view.Draw.{Draw}
use Rattle.claim_rule.specs.Claims.{tick_of, output_of, IsSound, IsFit}
use Rattle.claim_rule.specs.Words.{places, head_words}
use Rattle.claim_rule.specs.Plays.{Knows}
use Rattle.claim_rule.specs.Views.{Begins, draw, overs, times, drew}
use Rattle.claim_word.specs.declared.chain.Head.{Head}
use Rattle.claim_word.specs.declared.memory.Memory.{Memory}
use Rattle.claim_word.specs.declared.span.Span.{Span}
use Rattle.claim_word.specs.declared.worker.Claim.{Claim}
use Rattle.claim_word.specs.declared.worker.Claimed.{Claimed}
use Rattle.claim_word.specs.declared.worker.Claimed.TheVariants.{Packet, Over}
use Rattle.claim_word.specs.Faces.{PassFace, IsSpan}
use Rattle.claim_word.specs.Chains.{HavePassed, IsChained}
use Rattle.claim_word.specs.Holding.{IsHeld}

-- ---- claims

-- the claim of a number drawn, over the entries that the draw found
pub record IsClaim (plan : Plan) (number : ℕ) (found : List Entry) (c : Claim) : Type 0 where
  pub early : number < plan.packets
  pub k : c.k ≡ plan.from + number
  pub tick : c.tick ≡ tick_of plan number
  pub output : c.output ≡ output_of plan number
  pub entries : c.entries ≡ length found

-- the number that was drawn for a claim: from 0 on
abbrev pub number_of : Plan → Claim → ℕ
number_of plan c = c.k - plan.from

-- the pass drew a number, while the entries that it knows now were published, which begin with
-- those that it had found before
pub record IsDrawn (p q : PassFace) (number : ℕ) : Type 0 where
  pub was : p.ended ≡ false
  pub id : q.id ≡ p.id
  pub view : q.view ≡ drew p.view number q.view.entries
  pub more : Begins p.view.entries q.view.entries

-- the pass drew a number past the packets
pub record IsLate (p q : PassFace) : Type 0 where
  pub number : ℕ
  pub late : p.view.plan.packets ≤ number
  pub drawn : IsDrawn p q number

-- the last draw of a view
abbrev pub IsLastDraw : View → ℕ → Type 0
IsLastDraw v number = slice_get v.draws (length v.draws - 1) ≡ Some (draw number v.entries)

-- the claim is that of a view's last draw
pub record IsLast (v : View) (c : Claim) : Type 0 where
  pub draw : IsLastDraw v (number_of v.plan c)
  pub claim : IsClaim v.plan (number_of v.plan c) v.entries c

-- what holds of the claim, where a packet was claimed
abbrev pub OnPacket : Claimed → (Claim → Type 0) → Type 0
OnPacket (Packet c) P = P c
OnPacket Over P = Unit {0}

-- whether all packets were claimed
abbrev pub is_over : Claimed → Bool
is_over (Packet c) = false
is_over Over = true

-- a pass that is over drew a number past the packets
pub record HasOver (packets : ℕ) (draws : List Draw) : Type 0 where
  pub number : ℕ
  pub late : packets ≤ number
  pub there : 0 < times number draws

-- the claims that draws make, by their numbers in the whole session
abbrev pub is_packet : Plan → Draw → Bool
is_packet plan d = nat_lt d.number plan.packets

-- the claims of draws, by their numbers in the whole session: draws past the packets are none
abbrev pub claims_of : Plan → List Draw → List ℕ
claims_of plan draws = map (λ d. plan.from + d.number) (filter (is_packet plan) draws)

-- ---- loads

-- how many words the row of a draw has: one for each channel of its output, where it is a packet's
abbrev pub row_words : Plan → Draw → ℕ
row_words plan d =
    cond (is_packet plan d) (channels_of_output plan.setup.device (output_of plan d.number)) 0

-- over its life a pass loads at most the head words of each entry that its last draw found, and one
-- word for each channel of each claim
abbrev pub IsFrugal : View → Type 0
IsFrugal v = v.loads ≤ head_words * length v.entries + sum_by (row_words v.plan) v.draws

-- the view a given number of loads later
abbrev pub read_on : View → ℕ → View
read_on v n = record v { loads = v.loads + n }

-- the view after a number of further loads for parts of packets
abbrev pub pieced_on : View → ℕ → View
pieced_on v n = record v { pieces = v.pieces + n }

-- ---- what a pass remembers

-- what is remembered of an entry: its output, and the frame of a tick from which it counts
abbrev pub head_of : Entry → Head
head_of e = record { output = e.output; tick = e.tick; offset = e.offset }

-- the first frame of the tick of a draw
abbrev pub begin_of : Plan → ℕ → ℕ
begin_of plan number = frame_key (tick_of plan number) 0

-- the row that rules the first frame of the tick of a draw, over the entries of the view
abbrev pub HasRow : View → List (List Cell) → ℕ → Type 0
HasRow v rows number =
    selected v.entries (output_of v.plan number) (begin_of v.plan number) ≡ Some
    (slice_index_or rows (output_of v.plan number) [])

-- The heads of entries in front; chains through them, which have come to no later frame than the
-- first of a draw's tick; rows for each output, and the places of their entries; and the row that
-- rules the last claim, or as many loads are left as it has channels.
pub record IsMemory (v : View) (m : Memory) : Type 0 where
  pub room : places ≤ vec_capacity m.heads
  pub heads : Begins m.heads.items (map head_of v.entries)
  pub chains : IsChained m.heads.items (length v.plan.setup.device.outputs) m.chains
  pub reached : ℕ
  pub passed : HavePassed m.heads.items reached m.chains.tracks.items
  pub begun : (number : ℕ) → All (λ d. d.number ≤ number) v.draws
      → reached ≤ begin_of v.plan number
  pub rows : AllZip HasCells v.plan.setup.device.outputs m.rows.items
  pub parts : AllZip HasCells v.plan.setup.device.outputs m.parts.items
  pub rows_held : IsHeld v.entries (length v.plan.setup.device.outputs) m.row_places.items
      m.rows.items
  pub parts_held : IsHeld v.entries (length v.plan.setup.device.outputs) m.part_places.items
      m.parts.items
  pub loads : v.loads ≤ head_words * length m.heads.items + sum_by (row_words v.plan) v.draws
  pub last : (number : ℕ) → IsLastDraw v number → number < v.plan.packets
      → MatchBool m.ready (HasRow v m.rows.items number)
      (v.loads + channels_of_output v.plan.setup.device (output_of v.plan number) ≤ head_words
      * length m.heads.items + sum_by (row_words v.plan) v.draws)

-- the heads are those of all entries, and the chains lead through all of them and have come to no
-- later frame than the first of a draw's tick
pub record IsLearnt (v : View) (m : Memory) (number : ℕ) : Type 0 where
  pub room : places ≤ vec_capacity m.heads
  pub heads : m.heads.items ≡ map head_of v.entries
  pub chains : IsChained m.heads.items (length v.plan.setup.device.outputs) m.chains
  pub all : length m.chains.next.items ≡ length m.heads.items
  pub passed : HavePassed m.heads.items (begin_of v.plan number) m.chains.tracks.items

-- a seat has loaded what it did not know of the heads, and for a part of a packet at most the words
-- of a row of an output
pub record IsPieceRead (was is : Knows) (output : ℕ) : Type 0 where
  pub heads : ℕ
  pub words : ℕ
  pub few : words ≤ channels_of_output was.0.plan.setup.device output
  pub view : is ≡ (pieced_on (read_on was.0 heads) words, was.1)

-- What a worker's pass keeps: it may draw past the packets once; its last draw has the greatest
-- number; its claims are those of its draws; and the entries that its last draw found have room,
-- fit the plan and leave no output without a row.
pub record IsWorker (v : View) (span : Span) (claims : List ℕ) (room : ℕ) (ended : Bool) : Type 0
  where
    pub sound : IsSound v.plan
    pub span_is : IsSpan v.plan span
    pub live : v.live ≡ true
    pub quiet : v.publishes ≡ false
    pub part : v.parts ≡ 1
    pub early : ended ≡ false → overs v.plan v ≡ 0
    pub top : (number : ℕ) → IsLastDraw v number → All (λ d. d.number ≤ number) v.draws
    pub over : ended ≡ true → HasOver v.plan.packets v.draws
    pub claims_are : claims ≡ claims_of v.plan v.draws
    pub room_is : v.plan.packets ≤ room
    pub few : length v.entries ≤ places
    pub fits : All (IsFit v.plan) v.entries
    pub covers : 0 < length v.draws → HasRowsFrom v.plan.setup.device v.entries (begin_of v.plan 0)
