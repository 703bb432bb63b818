use Rattle.std.proofs.Common.{rules}
use Rattle.tai_time.proofs.Answering.{greatest_at}
use Rattle.tai_time.proofs.tick.tick_of.Goals as goal

pub returns-clause-greatest : goal.returns-clause-greatest
returns-clause-greatest c = greatest_at _ _ _ c.requires (search rules)
