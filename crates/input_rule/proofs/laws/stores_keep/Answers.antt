use Rattle.input_rule.proofs.Steps.{stores_sample, stores_presence, stores_closing}
use Rattle.input_rule.proofs.laws.stores_keep.Goals as goal

pub returns-clause-sample : goal.returns-clause-sample
returns-clause-sample c = stores_sample

pub returns-clause-presence : goal.returns-clause-presence
returns-clause-presence c = stores_presence

pub returns-clause-closing : goal.returns-clause-closing
returns-clause-closing c = stores_closing
