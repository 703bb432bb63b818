use Rattle.claim_rule.proofs.Steps.{sees_keeps}
use Rattle.claim_rule.proofs.laws.look_keeps.Goals as goal

pub returns : goal.returns
returns c = sees_keeps
