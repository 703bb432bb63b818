use Rattle.claim_rule.proofs.Seats.{takes_in_keeps}
use Rattle.claim_rule.proofs.laws.pass_in_keeps.Goals as goal

pub returns : goal.returns
returns c = takes_in_keeps
