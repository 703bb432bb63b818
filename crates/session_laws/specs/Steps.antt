-- What single calls on running tables tell, from which the facts of a session are made; and how the
-- parts of a history are joined. (This project's own.)
use Rattle.std.specs.Prelude.{◌≡◌, ℕ, ◌+◌, ◌<◌, fold, Bool, true, false, List, [], ◌∷◌, ◌++◌}
use Rattle.std.specs.Prelude.{length, IsPermutation}
use Rattle.std.specs.List.{Contains}
use Rattle.std.specs.List.Sorted.{IsNonDecreasingBy}
use Rattle.io_caps.specs.declared.device.DeviceParts.{DeviceParts}
use Rattle.map_entry.specs.Setup.{SetupParts}
use Rattle.packet_writer.specs.Flags.{Sights, names_by}
use Rattle.packet_writer.specs.Packet.{Blocks, flag_of, packet_by, tick_of_claim}
use Rattle.book_words.specs.declared.calls.JournalCall.{JournalCall}
use Rattle.book_words.specs.declared.given.Given.{Given}
use Rattle.book_words.specs.declared.history.ClaimItem.{ClaimItem}
use Rattle.book_words.specs.declared.history.History.{History}
use Rattle.plain_book.specs.Given.{replies_of}
use Rattle.book_words.specs.History.{history_of, put}
use Rattle.claim_rule.specs.declared.view.Draw.{Draw}
use Rattle.input_cells.specs.Agreement.{Agrees}
use Rattle.input_rule.specs.declared.view.HeardSample.{HeardSample}
use Rattle.input_rule.specs.declared.view.Look.{Look}
use Rattle.session_laws.specs.Facts.{Lap, Made, items_of}

-- ---- looks

-- one of these looks saw the block of an input at a tick
pub record SawBlock (looks : List Look) (input tick : ℕ) : Type 0 where
  pub look : Look
  pub among : Contains looks look
  pub input_is : look.input ≡ input
  pub tick_is : look.tick ≡ tick
  pub saw_it : look.present ≡ true

-- one of them found no block there, after a closing number above the tick had been seen
pub record MissedBlock (looks : List Look) (input tick : ℕ) : Type 0 where
  pub look : Look
  pub among : Contains looks look
  pub input_is : look.input ≡ input
  pub tick_is : look.tick ≡ tick
  pub missed_it : look.present ≡ false
  pub late : tick < look.closed

-- a flag in closed form is what a look saw, and where it is not set the tick was closed
abbrev pub FlagClosed : List Look → ℕ → ℕ → Bool → Type 0
FlagClosed looks input tick true = SawBlock looks input tick
FlagClosed looks input tick false = MissedBlock looks input tick

-- a flag in free form is set by a look that saw the block
abbrev pub FlagFree : List Look → ℕ → ℕ → Bool → Type 0
FlagFree looks input tick true = SawBlock looks input tick
FlagFree looks input tick false = Unit {0}

-- all that agrees with what was seen later agrees with what was seen before
abbrev pub KnowsMore : DeviceParts → List Look → List HeardSample → List Look → List HeardSample
    → Type 0
KnowsMore d looks heard more further =
    (blocks : Blocks) → Agrees d more further blocks → Agrees d looks heard blocks

-- ---- a gathered packet, by what its worker has seen once it is made

-- In closed form: the flag of an input that the entries found name is that of a look, and another
-- input's is not set; and the packet is by the entries found, over any blocks that agree.
pub record GathersClosed (s : SetupParts) (from : ℕ) (d : Draw) (looks : List Look)
    (heard : List HeardSample) (item : ClaimItem) : Type 0 where
  pub number : item.k ≡ from + d.number
  pub long : length item.found ≡ length s.device.inputs
  pub named : (input : ℕ) → input < length s.device.inputs → names_by s d.found item.k input ≡ true
      → FlagClosed looks input (tick_of_claim s item.k) (flag_of item.found input)
  pub other : (input : ℕ) → input < length s.device.inputs → names_by s d.found item.k input ≡ false
      → flag_of item.found input ≡ false
  pub packet : (blocks : Blocks) → Agrees s.device looks heard blocks
      → item.packet ≡ packet_by s d.found blocks item.found item.k

-- In free form: the same with a look at any time, but a block of the claim's tick that had been
-- seen before is found again.
pub record GathersFree (s : SetupParts) (from : ℕ) (d : Draw) (before looks : List Look)
    (heard : List HeardSample) (item : ClaimItem) : Type 0 where
  pub number : item.k ≡ from + d.number
  pub long : length item.found ≡ length s.device.inputs
  pub named : (input : ℕ) → input < length s.device.inputs → names_by s d.found item.k input ≡ true
      → FlagFree looks input (tick_of_claim s item.k) (flag_of item.found input)
  pub other : (input : ℕ) → input < length s.device.inputs → names_by s d.found item.k input ≡ false
      → flag_of item.found input ≡ false
  pub again : (input : ℕ) → input < length s.device.inputs → names_by s d.found item.k input ≡ true
      → SawBlock before input (tick_of_claim s item.k) → flag_of item.found input ≡ true
  pub packet : (blocks : Blocks) → Agrees s.device looks heard blocks
      → item.packet ≡ packet_by s d.found blocks item.found item.k

-- what is seen for a claim had been looked at before
abbrev pub IsSeenBefore : SetupParts → Sights → List Look → ℕ → Type 0
IsSeenBefore s seen before k =
    (input : ℕ) → seen k input ≡ true → SawBlock before input (tick_of_claim s k)

-- ---- a worker's job

-- nothing made yet
abbrev pub none_made : Made
none_made = record { draws = []; looks = []; heard = []; items = [] }

-- with one more draw and its claim, and what is seen now
abbrev pub made_more : Made → Draw → List Look → List HeardSample → ClaimItem → Made
made_more w d looks heard item =
    record { draws = w.draws ++ d ∷ []; looks = looks; heard = heard; items = w.items ++ item ∷ [] }

-- with a draw past the packets
abbrev pub made_over : Made → Draw → Made
made_over w d =
    record { draws = w.draws ++ d ∷ []; looks = w.looks; heard = w.heard; items = w.items }

-- with what is seen now alone
abbrev pub made_still : Made → List Look → List HeardSample → Made
made_still w looks heard = record { draws = w.draws; looks = looks; heard = heard; items = w.items }

-- ---- parts of a history

-- Two parts joined: claims after claims, calls after calls, and the later replies put to the
-- earlier ones, since replies of both may stand at the same claims.
abbrev pub parts_joined : History → History → History
parts_joined a b =
    history_of (a.claims ++ b.claims) (a.journal ++ b.journal) (fold put a.replies b.replies)

-- all parts joined
abbrev pub all_joined : List History → History
all_joined parts = fold parts_joined (history_of [] [] []) parts

-- A part between two journals: these claims in the order of their numbers, the calls after the
-- first journal, and the replies of these answers in order.
pub record IsHistoryPart (before after : List JournalCall) (items : List ClaimItem)
    (given : List Given) (part : History) : Type 0 where
  pub claims : IsPermutation items part.claims
  pub rises : IsNonDecreasingBy (λ c. c.k) part.claims
  pub calls : before ++ part.journal ≡ after
  pub replies : part.replies ≡ replies_of given

-- a part of each lap, and one of the answers to what was left, which has no claims
abbrev pub AreHistoryParts : List JournalCall → List Lap → List Given → List JournalCall
    → List History → Type 0
AreHistoryParts journal [] late last [] = ⊥
AreHistoryParts journal [] late last (part ∷ []) = IsHistoryPart journal last [] late part
AreHistoryParts journal [] late last (part ∷ other ∷ parts) = ⊥
AreHistoryParts journal (l ∷ ls) late last [] = ⊥
AreHistoryParts journal (l ∷ ls) late last (part ∷ parts) =
    IsHistoryPart journal l.journal (items_of l.workers) l.given part
    × AreHistoryParts l.journal ls late last parts
