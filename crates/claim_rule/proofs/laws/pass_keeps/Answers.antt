use Rattle.claim_rule.proofs.Seats.{hands_keeps}
use Rattle.claim_rule.proofs.laws.pass_keeps.Goals as goal

pub returns : goal.returns
returns c = hands_keeps
