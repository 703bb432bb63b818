use Rattle.input_cells.proofs.Copying.{agreeing, have_frames, seen_of}
use Rattle.input_cells.proofs.source.SeenSamples.agree.Goals as goal

pub returns-clause-blocks : goal.returns-clause-blocks
returns-clause-blocks c d from ticks blocks of_it a =
    agreeing d from ticks c.args.self.now.table.now c.args.self.now.pass.now c.args.self.now.tick
    c.args.self.now.flags.now blocks of_it c.args.self.now.of_table
    (seen_of _ _ _ _ c.args.self.now.seen) a

pub returns-clause-frames : goal.returns-clause-frames
returns-clause-frames c d from ticks of_it b h =
    have_frames d from ticks c.args.self.now.table.now c.args.self.now.pass.now c.args.self.now.tick
    c.args.self.now.flags.now b of_it c.args.self.now.of_table h
