use Rattle.std.proofs.Common.{◌<◌}
use Rattle.input_rule.specs.declared.view.Shape.{Shape}
use Rattle.input_cells.proofs.Passes.{one_shape, shape_there}
use Rattle.input_cells.proofs.table.InputTable.has_channel.Goals as goal

pub returns : goal.returns
returns c = (
  λ yes_it. shape_there (λ (s : Shape). c.args.channel < s.channels) _ _ c.args.input _
      c.self.view_is c.requires c.index.ensures (c.has_channel.ensures.0 yes_it),
  λ there. c.has_channel.ensures.1
      (one_shape (λ (s : Shape). c.args.channel < s.channels) _ _ c.args.input _ c.self.view_is
      c.index.ensures there),
)
