use Rattle.std.proofs.Common.{◌∙◌, sym, ap, arith}
use Rattle.claim_rule.proofs.Seats.{notes_keeps}
use Rattle.claim_word.proofs.publisher.Publisher.client.Goals as goal

pub split_seat-seat-requires : goal.split_seat-seat-requires
split_seat-seat-requires c = (
  ap (λ z. z.id) c.self.view_is ∙ (c.requires.id_is ∙ sym (ap (λ z. z.id) c.table.view_is)),
  omega (arith, c.table.invariant.1),
  notes_keeps c.table.inside.table.shared.key _ _ c.self.invariant.0.live,
)
