-- What each kind of step tells its seat, and what it asks. (This project's own.)
use Rattle.std.specs.Prelude.{◌≡◌, ℕ, ◌+◌, ◌-◌, ◌*◌, ◌/◌, ◌%◌, ◌^◌, ◌<◌, ◌≤◌, ◌==◌, true}
use Rattle.std.specs.Prelude.{List, [], ◌++◌, length, slice_index, slice_index_or, MatchBool}
use Rattle.std.specs.List.{All}
use mathlib.Core.Option.{Option, none, some}
use Rattle.atomic_table.specs.Table.{Me, Step}
use Rattle.map_entry.specs.declared.entry.Entry.{Entry}
use Rattle.map_entry.specs.Entry.{HasRowsFrom}
use Rattle.map_entry.specs.Tick.{frame_key}
use Rattle.claim_rule.specs.declared.plan.Plan.{Plan}
use Rattle.claim_rule.specs.declared.view.View.{View}
use Rattle.claim_rule.specs.Claims.{tick_of, claims_at, IsFit, IsTimely}
use Rattle.claim_rule.specs.Words.{places, stride, entry_words, Spells}
use Rattle.claim_rule.specs.Views.{Begins, IsSight, drew, loaded, pieced, saw, wrote, added}

-- a seat's view, and the slots that it holds, of which there are none
abbrev pub Knows : Type 0
Knows = Me (List Entry) View

-- what word 0 counts: the numbers drawn, and the entries published
abbrev pub raw_of : ℕ → ℕ
raw_of word = word % 2 ^ 32

-- how many entries word 0 shows as published
abbrev pub count_of : ℕ → ℕ
count_of word = word / 2 ^ 32

-- a list of entries that a step found
pub record IsFound (plan : Plan) (list : List Entry) (word : ℕ) : Type 0 where
  pub count : length list ≡ count_of word
  pub room : length list ≤ places
  pub fits : All (IsFit plan) list
  pub covers : HasRowsFrom plan.setup.device list (frame_key (tick_of plan 0) 0)

-- A draw tells the number, which is greater than those that the seat drew before, and the entries
-- published, which begin with those that the draw before found. The seat has room in its list of
-- claims for as many as were drawn before.
abbrev pub draws : Step (List Entry) → Knows → ℕ → Knows → Type 0
draws st me word after =
    (found : List Entry) × (after ≡ (drew me.0 (raw_of word) found, me.1))
    × (length me.0.draws ≤ raw_of word) × Begins me.0.entries found × IsFound me.0.plan found word
    × All (λ d. d.number < raw_of word) me.0.draws

-- what was loaded is the word of the entry known at that place
abbrev pub IsWordRead : Step (List Entry) → Knows → ℕ → Type 0
IsWordRead st me word =
    (i k : ℕ) (d : Entry) → st.word ≡ (i * stride + k) + 1 → i < length me.0.entries
    → k < length (entry_words (slice_index_or me.0.entries i d))
    → word ≡ slice_index (entry_words (slice_index_or me.0.entries i d)) k

-- a load of an entry's word tells that it is the word of the entry known at that place
abbrev pub reads : Step (List Entry) → Knows → ℕ → Knows → Type 0
reads st me word after = (after ≡ (loaded me.0, me.1)) × IsWordRead st me word

-- so does a load for a part of a packet, which is counted apart
abbrev pub reads_piece : Step (List Entry) → Knows → ℕ → Knows → Type 0
reads_piece st me word after = (after ≡ (pieced me.0, me.1)) × IsWordRead st me word

-- The state is not below those that were seen, nor those of which the seat was told. The publisher
-- finds as many entries as it has published, and there are at most as many draws as packets and
-- workers.
pub record IsLater (v : View) (word : ℕ) : Type 0 where
  pub sights : All (IsSight (count_of word) (raw_of word)) v.sights
  pub told : All (IsSight (count_of word) (raw_of word)) v.told
  pub own : v.publishes ≡ true → count_of word ≡ length v.entries
  pub most : v.live ≡ true → raw_of word ≤ v.plan.packets + v.plan.workers

-- a load of word 0 tells the state
abbrev pub sees : Step (List Entry) → Knows → ℕ → Knows → Type 0
sees st me word after = (after ≡ (saw me.0 (raw_of word) (count_of word), me.1)) × IsLater me.0 word

-- a store tells that the word is written
abbrev pub writes : Step (List Entry) → Knows → ℕ → Knows → Type 0
writes st me word after = after ≡ (wrote me.0 (st.word - 1) st.first, me.1)

-- the entries that a step announces
abbrev pub said_of : Option (List Entry) → List Entry
said_of none = []
said_of (some entries) = entries

-- an exchange tells that the entries announced are published, where it found the word expected; or
-- else the state
abbrev pub publishes : Step (List Entry) → Knows → ℕ → Knows → Type 0
publishes st me word after =
    MatchBool (word == st.first)
    (after ≡ (added me.0 (said_of st.said), me.1))
    ((after ≡ (saw me.0 (raw_of word) (count_of word), me.1)) × IsLater me.0 word)

-- What the publisher owes where it publishes: words that spell the new entries after the others,
-- which have room and fit the plan; the claims at a number of draws; and ticks that have not begun
-- then.
pub record MayPublish (plan : Plan) (v : View) (new : List Entry) (raw : ℕ) : Type 0 where
  pub spelt : Spells v.cells (v.entries ++ new)
  pub room : length v.entries + length new ≤ places
  pub fits : All (IsFit plan) new
  pub ats : All (λ e. e.at ≡ claims_at plan raw) new
  pub timely : All (IsTimely plan) new
