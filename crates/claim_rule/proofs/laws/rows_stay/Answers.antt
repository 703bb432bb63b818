use Rattle.claim_rule.proofs.Ends.{stays_selected}
use Rattle.claim_rule.proofs.laws.rows_stay.Goals as goal

pub returns : goal.returns
returns c = stays_selected
