use Rattle.claim_rule.proofs.Steps.{pieces_keeps}
use Rattle.claim_rule.proofs.laws.piece_keeps.Goals as goal

pub returns : goal.returns
returns c = pieces_keeps
