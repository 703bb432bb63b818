use Rattle.std.proofs.Common.{rules}
use Rattle.input_cells.proofs.Agreeing.{all_agree}
use Rattle.input_cells.proofs.Ending.{all_confirmed, all_more}
use Rattle.input_cells.proofs.table.InputTable.end.Goals as goal

pub loop-reader-preserved : goal.loop-reader-preserved
loop-reader-preserved c = all_more c.args.feeds c.loop-reader.feeds.items c.confirm.new.feeds.items
    c.args.readers c.loop-reader.readers.items c.pop.new.self.items c.in-Some.reader
    c.loop-reader.invariant c.in-Some.ensures.items c.confirm.ensures.same c.confirm.ensures.fits

pub returns-clause-agree : goal.returns-clause-agree
returns-clause-agree c d from ticks of_it = all_agree d from ticks c.args.self c.args.feeds
    c.args.readers of_it c.requires.feeds c.requires.readers
    (all_confirmed c.args.feeds c.loop-reader.feeds.items c.args.readers c.loop-reader.readers.items
    c.loop-reader.invariant (search rules))

pub returns-clause-words : goal.returns-clause-words
returns-clause-words c =
    all_confirmed c.args.feeds c.loop-reader.feeds.items c.args.readers c.loop-reader.readers.items
    c.loop-reader.invariant (search rules)
