use Rattle.std.proofs.Common.{◌+◌, ◌*◌, rules}
use Rattle.tai_time.proofs.Answering.{frame_again_at}
use Rattle.tai_time.proofs.TickLaws.{moment_start-begin}
use Rattle.tai_time.proofs.tick.moment_start.Goals as goal

pub returns-clause-again : goal.returns-clause-again
returns-clause-again c =
    frame_again_at c.args.rate (c.args.tick * c.args.rate.frames + c.args.offset)
    c.from_nanos.result c.requires (search rules)

pub returns-clause-begin : goal.returns-clause-begin
returns-clause-begin c = moment_start-begin c.args.rate c.args.tick c.args.offset
