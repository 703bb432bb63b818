use Rattle.std.proofs.Common.{rules}
use Rattle.tai_time.proofs.Answering.{least_frame_at}
use Rattle.tai_time.proofs.tick.frame_up.Goals as goal

pub returns-clause-least : goal.returns-clause-least
returns-clause-least c = least_frame_at _ _ _ c.requires (search rules)
