use Rattle.std.proofs.Common.{◌∙◌, sym, ap, subst}
use Rattle.input_rule.specs.declared.view.View.{View}
use Rattle.input_rule.proofs.Steps.{learns_allowed, takes_in_allowed}
use Rattle.input_cells.specs.Agreement.{AreTrue}
use Rattle.input_cells.proofs.Ending.{learned}
use Rattle.input_cells.proofs.Feeding.{seat_id}
use Rattle.input_cells.proofs.Seats.{some_word}
use Rattle.input_cells.proofs.feeder.InputFeeder.confirm.Goals as goal

pub join_seat-requires : goal.join_seat-requires
join_seat-requires c = (
  seat_id _ _ _ _ c.self.view_is c.requires.table ∙ sym (ap (λ z. z.id) c.table.view_is),
  seat_id _ _ _ _ c.reader.view_is c.requires.reader ∙ sym (ap (λ z. z.id) c.table.view_is),
  c.reader.invariant.1,
  some_word _ _ _ _ c.table.invariant,
  takes_in_allowed c.table.inside.table.shared.key _ _ _ _,
)

pub load-requires : goal.load-requires
load-requires c = (
  c.join_seat.ensures.0
      ∙ (seat_id _ _ _ _ c.self.view_is c.requires.table ∙ sym (ap (λ z. z.id) c.table.view_is)),
  some_word _ _ _ _ c.table.invariant,
  learns_allowed c.table.inside.table.shared.key _ _ _ 0 (ap (λ m. m.0.live) c.join_seat.ensures.2
      ∙ c.self.invariant.0.live) (ap (λ m. m.0.feeds) c.join_seat.ensures.2
      ∙ c.self.invariant.0.feeds),
)

pub returns-clause-fits : goal.returns-clause-fits
returns-clause-fits c =
    subst (λ (z : View × View). AreTrue z.0 z.1)
    (λ k. ((c.self.view_is k).view, (c.reader.view_is k).view))
    (learned _ _ _ (ap (λ m. m.0) c.join_seat.ensures.2) c.load.ensures.2.1 c.load.ensures.2.2)
