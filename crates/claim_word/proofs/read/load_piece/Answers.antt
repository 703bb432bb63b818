use Rattle.std.proofs.Common.{◌∙◌, sym, ap, arith}
use Rattle.claim_rule.proofs.Steps.{pieces_keeps}
use Rattle.claim_word.proofs.read.load_piece.Goals as goal

pub load-requires : goal.load-requires
load-requires c = (
  c.requires.table ∙ sym (ap (λ z. z.id) c.table.view_is),
  omega (arith, c.table.invariant.1, c.requires.place.0, c.requires.place.1),
  pieces_keeps c.table.inside.table.shared.key _ _ _ _,
)
