use Rattle.claim_rule.proofs.Seats.{notes_in_keeps}
use Rattle.claim_rule.proofs.laws.note_in_keeps.Goals as goal

pub returns : goal.returns
returns c = notes_in_keeps
