use Rattle.input_rule.proofs.Steps.{sees_allowed, looks_allowed, hears_allowed}
use Rattle.input_rule.proofs.laws.loads_keep.Goals as goal

pub returns-clause-closing : goal.returns-clause-closing
returns-clause-closing c = sees_allowed

pub returns-clause-look : goal.returns-clause-look
returns-clause-look c = looks_allowed

pub returns-clause-sample : goal.returns-clause-sample
returns-clause-sample c = hears_allowed
