use Rattle.std.proofs.Common.{◌∙◌, sym, ap, arith}
use Rattle.claim_rule.proofs.Seats.{notes_keeps, notes_in_keeps}
use Rattle.claim_word.proofs.publisher.Publisher.hear.Goals as goal

pub split_seat-told-requires : goal.split_seat-told-requires
split_seat-told-requires c = (
  ap (λ z. z.id) c.pass.view_is ∙ (c.requires.pass.id_is ∙ sym (ap (λ z. z.id) c.table.view_is)),
  omega (arith, c.table.invariant.1),
  notes_keeps c.table.inside.table.shared.key _ _ c.pass.invariant.0.live,
)

pub join_seat-requires : goal.join_seat-requires
join_seat-requires c = let told = c.split_seat-told.ensures in
    let own = sym (ap (λ z. z.id) c.table.view_is) in (
      ap (λ z. z.id) c.self.view_is ∙ (c.requires.publisher.id_is ∙ own),
      told.3 ∙ (ap (λ z. z.id) c.pass.view_is ∙ (c.requires.pass.id_is ∙ own)),
      ap (λ m. m.1) told.4,
      omega (arith, c.table.invariant.1),
      notes_in_keeps c.table.inside.table.shared.key _ _ _ _ (ap (λ m. m.0.parts) told.4),
    )
