use Rattle.claim_rule.proofs.Steps.{reads_keeps}
use Rattle.claim_rule.proofs.laws.read_keeps.Goals as goal

pub returns : goal.returns
returns c = reads_keeps
