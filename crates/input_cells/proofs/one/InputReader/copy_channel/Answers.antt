use Rattle.input_cells.proofs.Copying.{copied_channel}
use Rattle.input_cells.proofs.one.InputReader.copy_channel.Goals as goal

pub returns-then-has_channels-clause-value : goal.returns-then-has_channels-clause-value
returns-then-has_channels-clause-value c b is frames =
    copied_channel _ c.args.tick _ _ _ b _ _ is c.copy_run.ensures.heard c.copy_run.ensures.len

pub returns-else-has_channels-clause-value : goal.returns-else-has_channels-clause-value
returns-else-has_channels-clause-value c b is frames =
    copied_channel _ c.args.tick _ _ _ b _ _ is c.copy.ensures.heard c.copy.ensures.len
