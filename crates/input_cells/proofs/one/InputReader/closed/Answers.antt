use Rattle.std.proofs.Common.{◌∙◌, sym, ap}
use Rattle.input_rule.proofs.Steps.{sees_allowed}
use Rattle.input_cells.proofs.Seats.{some_word}
use Rattle.input_cells.proofs.one.InputReader.closed.Goals as goal

pub load-requires : goal.load-requires
load-requires c = (
  ap (λ z. z.id) c.self.view_is
      ∙ (ap (λ z. z.id) c.requires ∙ sym (ap (λ z. z.id) c.table.view_is)),
  some_word _ _ _ _ c.table.invariant,
  sees_allowed c.table.inside.table.shared.key _ _ _ c.self.invariant.0,
)
