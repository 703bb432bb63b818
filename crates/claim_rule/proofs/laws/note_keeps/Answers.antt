use Rattle.claim_rule.proofs.Seats.{notes_keeps}
use Rattle.claim_rule.proofs.laws.note_keeps.Goals as goal

pub returns : goal.returns
returns c = notes_keeps
