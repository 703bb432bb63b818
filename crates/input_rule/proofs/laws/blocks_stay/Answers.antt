use Rattle.input_rule.proofs.Blocks.{blocks_settle, blocks_stay, starts_empty}
use Rattle.input_rule.proofs.laws.blocks_stay.Goals as goal

pub returns-clause-start : goal.returns-clause-start
returns-clause-start c = starts_empty

pub returns-clause-stay : goal.returns-clause-stay
returns-clause-stay c = blocks_stay

pub returns-clause-settle : goal.returns-clause-settle
returns-clause-settle c = blocks_settle
