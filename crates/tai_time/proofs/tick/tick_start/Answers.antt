use Rattle.std.proofs.Common.{rules}
use Rattle.tai_time.proofs.Answering.{again_at}
use Rattle.tai_time.proofs.tick.tick_start.Goals as goal

pub returns-clause-again : goal.returns-clause-again
returns-clause-again c = again_at c.args.rate c.args.tick c.from_nanos.result c.requires (search rules)
