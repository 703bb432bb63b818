use Rattle.std.proofs.Common.{rules}
use Rattle.tai_time.proofs.Answering.{frame_again_at}
use Rattle.tai_time.proofs.tick.frame_start.Goals as goal

pub returns-clause-again : goal.returns-clause-again
returns-clause-again c = frame_again_at c.args.rate c.args.frame c.from_nanos.result c.requires (search rules)
