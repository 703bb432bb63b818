use Rattle.claim_rule.proofs.Steps.{writes_keeps}
use Rattle.claim_rule.proofs.laws.store_keeps.Goals as goal

pub returns : goal.returns
returns c = writes_keeps
