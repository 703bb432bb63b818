use Rattle.input_rule.proofs.Steps.{learns_allowed}
use Rattle.input_rule.proofs.laws.passes_keep.Goals as goal

pub returns-clause-learns : goal.returns-clause-learns
returns-clause-learns c = learns_allowed
