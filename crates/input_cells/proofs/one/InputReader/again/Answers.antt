use Rattle.std.proofs.Common.{◌∙◌, sym, ap}
use Rattle.input_rule.proofs.Steps.{hands_allowed}
use Rattle.input_cells.proofs.Seats.{some_word}
use Rattle.input_cells.proofs.one.InputReader.again.Goals as goal

pub split_seat-requires : goal.split_seat-requires
split_seat-requires c = (
  ap (λ z. z.id) c.self.view_is
      ∙ (ap (λ z. z.id) c.requires ∙ sym (ap (λ z. z.id) c.table.view_is)),
  some_word _ _ _ _ c.table.invariant,
  hands_allowed c.table.inside.table.shared.key _ _ c.self.invariant.0,
)
