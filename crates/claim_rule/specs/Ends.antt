-- What is known of a table in the end. (This project's own.)
use Rattle.std.specs.Prelude.{◌≡◌, ℕ, ◌+◌, ◌^◌, ◌<◌, ◌≤◌, true, List, ◌++◌, length}
use Rattle.std.specs.List.{All}
use Rattle.atomic_table.specs.Table.{Final, Seen}
use Rattle.map_entry.specs.declared.entry.Entry.{Entry}
use Rattle.map_entry.specs.Entry.{selected}
use Rattle.map_entry.specs.Tick.{frame_key}
use Rattle.claim_rule.specs.declared.plan.Plan.{Plan}
use Rattle.claim_rule.specs.declared.plan.Start.{Start}
use Rattle.claim_rule.specs.declared.view.View.{View}
use Rattle.claim_rule.specs.declared.view.Draw.{Draw}
use Rattle.claim_rule.specs.declared.view.Sight.{Sight}
use Rattle.claim_rule.specs.Claims.{plan_of, tick_of}
use Rattle.claim_rule.specs.Views.{times, once_below, IsSight}
use Rattle.claim_rule.specs.Rule.{Kept, IsListed, IsGood}

-- what the whole list selects for a frame of a draw's tick is what the entries found select
abbrev pub StaysSelected : Plan → List Entry → Draw → Type 0
StaysSelected plan list d =
    d.number < plan.packets → (output frame : ℕ) → frame < 2 ^ 16
    → selected list output (frame_key (tick_of plan d.number) frame)
    ≡ selected d.found output (frame_key (tick_of plan d.number) frame)

-- All entries, all draws and what was seen, once every pass is back: each number below as many as
-- there are draws was drawn once, and no other; the entries after those that a draw found count
-- from later ticks, so they change no row of it; and no state seen was beyond.
pub record Ends (plan : Plan) (list : List Entry) (draws : List Draw)
    (seen : List Sight) : Type 0 where
  pub most : length draws ≤ plan.packets + plan.workers
  pub listed : IsListed plan list (length draws)
  pub good : All (IsGood plan list (length draws)) draws
  pub rows : All (StaysSelected plan list) draws
  pub once : (number : ℕ) → times number draws ≡ once_below number (length draws)
  pub sights : All (IsSight (length list) (length draws)) seen

-- a publisher that has taken every pass in knows all in the end
abbrev pub EndKnown : Type 0
EndKnown =
    (start : Start) (id : ℕ) (v : View) (words : List ℕ) (slots : List (List Entry))
    → v.publishes ≡ true → v.parts ≡ start.workers
    → Final (Seen (Kept start) id v) words slots
    → Ends (plan_of start) v.entries v.draws (v.sights ++ v.told)

-- the entries after those that a draw found change no row of its tick
abbrev pub RowsStay : Type 0
RowsStay = (plan : Plan) (list : List Entry) (drawn : ℕ) (d : Draw) → IsGood plan list drawn d
    → StaysSelected plan list d
