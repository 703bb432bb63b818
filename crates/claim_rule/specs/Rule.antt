-- The rule of the claim table, which holds between any two steps. Word 0 shows how many numbers
-- were drawn and how many entries are published; the words of the entries' places spell these.
-- (This project's own.)
use Rattle.std.specs.Prelude.{◌≡◌, ℕ, ◌+◌, ◌<◌, ◌≤◌, true, List, [], ◌∷◌, ◌++◌, length, drop}
use Rattle.std.specs.List.{All, sum_by}
use mathlib.Core.Option.{some}
use lib.ListN.{get_elem?}
use Rattle.atomic_table.specs.Table.{State}
use Rattle.map_entry.specs.declared.entry.Entry.{Entry}
use Rattle.map_entry.specs.Entry.{HasRowsFrom}
use Rattle.map_entry.specs.Tick.{frame_key}
use Rattle.claim_rule.specs.declared.plan.Plan.{Plan}
use Rattle.claim_rule.specs.declared.plan.Start.{Start}
use Rattle.claim_rule.specs.declared.view.View.{View}
use Rattle.claim_rule.specs.declared.view.Draw.{Draw}
use Rattle.claim_rule.specs.Claims.{plan_of, tick_of, claims_at, IsSound, IsFit, IsTimely}
use Rattle.claim_rule.specs.Words.{places, state_word, Spells}
use Rattle.claim_rule.specs.Views.{Begins, overs, times, once_below, IsSight}

-- what a table shows: the entries published, how many numbers were drawn, the seat that publishes,
-- and the words of the places
pub record Shown : Type 0 where
  pub list : List Entry
  pub drawn : ℕ
  pub keeper : ℕ
  pub cells : List ℕ

-- the claims at the entries' publication never fall along the list, from `low` on, and end at
-- `high` at most
abbrev pub Rises : ℕ → List Entry → ℕ → Type 0
Rises low [] high = low ≤ high
Rises low (e ∷ es) high = (low ≤ e.at) × Rises e.at es high

-- The list of entries at a number of draws. It begins with those given; each output has a row from
-- the table's first tick on; and an entry that was published here counts from no tick that had
-- begun then.
pub record IsListed (plan : Plan) (list : List Entry) (drawn : ℕ) : Type 0 where
  pub room : length list ≤ places
  pub given : plan.given ≤ length list
  pub fits : All (IsFit plan) list
  pub covers : HasRowsFrom plan.setup.device list (frame_key (tick_of plan 0) 0)
  pub rises : Rises 0 list (claims_at plan drawn)
  pub timely : All (IsTimely plan) (drop plan.given list)

-- After the entries that a draw found, those published since count from ticks after that of the
-- draw alone.
pub record IsGood (plan : Plan) (list : List Entry) (drawn : ℕ) (d : Draw) : Type 0 where
  pub below : d.number < drawn
  pub rest : List Entry
  pub front : list ≡ d.found ++ rest
  pub later : d.number < plan.packets → All (λ e. tick_of plan d.number < e.tick) rest

-- the one seat that publishes knows all entries, and all words of their places
pub record Writes (x : Shown) (seat : ℕ) (v : View) : Type 0 where
  pub keeper : seat ≡ x.keeper
  pub entries : v.entries ≡ x.list
  pub cells : v.cells ≡ x.cells

-- what a seat may know of a table
pub record Fits (plan : Plan) (x : Shown) (seat : ℕ) (v : View) : Type 0 where
  pub bound : v.live ≡ true → v.plan ≡ plan
  pub idle : v.parts ≡ 0 → v.draws ≡ []
  pub over : overs plan v ≤ v.parts
  pub draws : All (IsGood plan x.list x.drawn) v.draws
  pub sights : All (IsSight (length x.list) x.drawn) v.sights
  pub told : All (IsSight (length x.list) x.drawn) v.told
  pub knows : Begins v.entries x.list
  pub writes : v.publishes ≡ true → Writes x seat v

-- What the words and views of a table show. Each number below those drawn stands in just one view,
-- and each view has at most as many draws past the packets as it has parts.
pub record Holds (plan : Plan) (s : State (List Entry) View) (x : Shown) : Type 0 where
  pub sound : IsSound plan
  pub words : s.words ≡ state_word (length x.list) x.drawn ∷ x.cells
  pub spelt : Spells x.cells x.list
  pub listed : IsListed plan x.list x.drawn
  pub seats : (seat : ℕ) (v : View) → get_elem? s.views seat ≡ some v → Fits plan x seat v
  pub parts : sum_by (λ v. v.parts) s.views ≡ plan.workers
  pub low : x.drawn ≤ plan.packets + sum_by (overs plan) s.views
  pub count : sum_by (λ v. length v.draws) s.views ≡ x.drawn
  pub once : (number : ℕ) → sum_by (λ v. times number v.draws) s.views ≡ once_below number x.drawn

-- a table that began so shows something
abbrev pub Kept : Start → State (List Entry) View → Type 0
Kept start s = (x : Shown) × Holds (plan_of start) s x

-- how a table may begin: its words spell the entries given, and nothing was drawn
pub record Opens (start : Start) (words : List ℕ) : Type 0 where
  pub sound : IsSound (plan_of start)
  pub head : words ≡ state_word (length start.entries.value) 0 ∷ drop 1 start.words.value.items
  pub spelt : Spells (drop 1 start.words.value.items) start.entries.value
  pub listed : IsListed (plan_of start) start.entries.value 0
