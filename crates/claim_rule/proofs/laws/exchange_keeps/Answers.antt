use Rattle.claim_rule.proofs.Publishing.{publishes_keeps}
use Rattle.claim_rule.proofs.laws.exchange_keeps.Goals as goal

pub returns : goal.returns
returns c = publishes_keeps
