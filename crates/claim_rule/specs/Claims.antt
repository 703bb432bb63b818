-- What a table is for, and the claims that are made on it: the number drawn from 0 on, and the
-- claim of the whole session. (This project's own.)
use Rattle.std.specs.Prelude.{ℕ, ◌+◌, ◌^◌, ◌<◌, ◌≤◌, length, min}
use Rattle.map_entry.specs.declared.claims.TheConstants.{CLAIMS_LIMIT}
use Rattle.map_entry.specs.declared.entry.Entry.{Entry}
use Rattle.map_entry.specs.Entry.{IsEntryOk}
use Rattle.map_entry.specs.Setup.{IsSetup}
use Rattle.map_entry.specs.Tick.{claim_tick, claim_output, first_tick}
use Rattle.claim_rule.specs.declared.plan.Plan.{Plan}
use Rattle.claim_rule.specs.declared.plan.Start.{Start}
use Rattle.claim_rule.specs.declared.words.TheConstants.{TICKS_LIMIT}

-- the plan of a table that begins so
abbrev pub plan_of : Start → Plan
plan_of start = record {
  setup = start.setup.value;
  from = start.from;
  packets = start.packets;
  workers = start.workers;
  given = length start.entries.value;
}

-- how many outputs take turns
abbrev pub outputs_of : Plan → ℕ
outputs_of plan = length plan.setup.device.outputs

-- the tick of a number drawn, and its output
abbrev pub tick_of : Plan → ℕ → ℕ
tick_of plan number = claim_tick plan.setup.device.base (outputs_of plan) (plan.from + number)

-- the output of the claim of a number
abbrev pub output_of : Plan → ℕ → ℕ
output_of plan number = claim_output (outputs_of plan) (plan.from + number)

-- how many claims were made when that many numbers are drawn: numbers past the packets are no
-- claims
abbrev pub claims_at : Plan → ℕ → ℕ
claims_at plan drawn = plan.from + min drawn plan.packets

-- the first tick not begun after a number of claims
abbrev pub begin : Plan → ℕ → ℕ
begin plan claims = first_tick plan.setup.device.base (outputs_of plan) claims

-- a plan within the limits of what word 0 counts
pub record IsSound (plan : Plan) : Type 0 where
  pub setup : IsSetup plan.setup
  pub few : plan.packets + plan.workers < 2 ^ 32
  pub claims : plan.from + plan.packets < CLAIMS_LIMIT

-- an entry of the plan's device that words can spell
pub record IsFit (plan : Plan) (e : Entry) : Type 0 where
  pub ok : IsEntryOk plan.setup.device e
  pub tick : e.tick < TICKS_LIMIT
  pub at : e.at < CLAIMS_LIMIT

-- the tick from which the entry counts had not begun when it was published
abbrev pub IsTimely : Plan → Entry → Type 0
IsTimely plan e = begin plan e.at ≤ e.tick
