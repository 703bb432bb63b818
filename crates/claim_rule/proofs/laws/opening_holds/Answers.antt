use Rattle.claim_rule.proofs.Ends.{opens_kept}
use Rattle.claim_rule.proofs.laws.opening_holds.Goals as goal

pub returns : goal.returns
returns c = opens_kept
