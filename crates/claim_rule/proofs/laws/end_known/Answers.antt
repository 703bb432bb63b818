use Rattle.claim_rule.proofs.Ends.{ends_so}
use Rattle.claim_rule.proofs.laws.end_known.Goals as goal

pub returns : goal.returns
returns c = ends_so
