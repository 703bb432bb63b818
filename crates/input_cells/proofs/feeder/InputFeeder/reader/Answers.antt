use Rattle.std.proofs.Common.{◌∙◌, sym, ap}
use Rattle.input_rule.proofs.Steps.{hands_allowed}
use Rattle.input_cells.proofs.Feeding.{seat_id}
use Rattle.input_cells.proofs.Seats.{some_word}
use Rattle.input_cells.proofs.feeder.InputFeeder.reader.Goals as goal

pub split_seat-requires : goal.split_seat-requires
split_seat-requires c = (
  seat_id _ _ _ _ c.self.view_is c.requires ∙ sym (ap (λ z. z.id) c.table.view_is),
  some_word _ _ _ _ c.table.invariant,
  hands_allowed c.table.inside.table.shared.key _ _ c.self.invariant.0.live,
)
