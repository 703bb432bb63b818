use Rattle.claim_rule.proofs.Steps.{draws_keeps}
use Rattle.claim_rule.proofs.laws.draw_keeps.Goals as goal

pub returns : goal.returns
returns c = draws_keeps
