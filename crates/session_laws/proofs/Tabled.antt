-- The end of a table of claims, whether it was drawn to its end or not.
use Rattle.std.proofs.Common.{◌≡◌, ℕ, ◌≤◌, List, length, arith}
use Rattle.std.specs.Prelude.{if◌then◌else◌, nat_lt}
use Rattle.map_entry.specs.declared.entry.Entry.{Entry}
use Rattle.claim_rule.specs.declared.plan.Plan.{Plan}
use Rattle.claim_rule.specs.declared.view.Draw.{Draw}
use Rattle.claim_rule.specs.declared.view.Sight.{Sight}
use Rattle.claim_rule.specs.Ends.{Ends}
use Rattle.claim_rule.specs.Views.{once_below}
use Rattle.session_laws.specs.Facts.{IsEnded}

pub below_is : (x bound : ℕ) → once_below x bound ≡ (if nat_lt x bound then 1 else 0)
below_is x bound = grind (arith)

-- as many packets were claimed as were drawn
pub ended : (plan : Plan) (made : ℕ) (list : List Entry) (draws : List Draw) (seen : List Sight)
    → Ends plan list draws seen → made ≤ length draws → IsEnded plan made list draws
ended plan made list draws seen ends le =
    record { drawn = length draws; good = ends.good; once = ends.once; full = le }
