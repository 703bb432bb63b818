-- How a table starts. (This project's own.)
use Rattle.std.specs.Prelude.{◌≡◌, ℕ, ◌*◌, ◌<◌, ◌≤◌, List, [], length}
use Rattle.std.specs.List.{All}
use Rattle.io_caps.specs.declared.limits.TheConstants.{MOST_BASE_ENTRIES}
use Rattle.map_entry.specs.declared.entry.Entry.{Entry}
use Rattle.map_entry.specs.Entry.{IsEntryOk, HasRowsFrom}
use Rattle.map_entry.specs.Setup.{SetupParts}
use Rattle.map_entry.specs.Tick.{claim_tick, frame_key}
use Rattle.claim_rule.specs.declared.plan.Plan.{Plan}
use Rattle.claim_rule.specs.declared.words.TheConstants.{TICKS_LIMIT}
use Rattle.claim_rule.specs.Rule.{Rises}
use Rattle.claim_word.specs.Faces.{TableFace, PublisherFace, IsPublisherOf}

-- the plan of a table of a given number of ticks
abbrev pub planned : SetupParts → ℕ → ℕ → ℕ → List Entry → Plan
planned s from ticks workers base = record {
  setup = s;
  from = from;
  packets = ticks * length s.device.outputs;
  workers = workers;
  given = length base;
}

-- What is asked of the entries with which a table begins, at a number of claims: they are few;
-- their outputs are there, and their rows pass the check; words can spell their ticks; the claims
-- at their publication never fall along the list, and end at those of the start; and each output
-- has a row from the table's first tick on.
pub record IsBase (s : SetupParts) (from : ℕ) (base : List Entry) : Type 0 where
  pub few : length base ≤ MOST_BASE_ENTRIES
  pub rows : All (IsEntryOk s.device) base
  pub ticks : All (λ e. e.tick < TICKS_LIMIT) base
  pub rises : Rises 0 base from
  pub covers : HasRowsFrom s.device base
      (frame_key (claim_tick s.device.base (length s.device.outputs) from) 0)

-- a table of this plan, and its publisher, which has seen and made nothing yet
pub record IsStarted (plan : Plan) (base : List Entry) (t : TableFace) (p : PublisherFace) : Type 0
  where
    pub plan_is : t.plan ≡ plan
    pub of : IsPublisherOf t p
    pub entries : p.view.entries ≡ base
    pub sights : p.view.sights ≡ []
    pub told : p.view.told ≡ []
    pub made : p.made ≡ 0
    pub clients : p.clients ≡ 0
