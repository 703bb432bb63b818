use Rattle.std.proofs.Common.{◌∙◌, sym, ap, arith}
use Rattle.claim_rule.proofs.Steps.{sees_keeps}
use Rattle.claim_word.proofs.client.ClientPass.load.Goals as goal

pub load-word-requires : goal.load-word-requires
load-word-requires c = (
  ap (λ z. z.id) c.self.view_is ∙ (c.requires.id_is ∙ sym (ap (λ z. z.id) c.table.view_is)),
  omega (arith, c.table.invariant.1),
  sees_keeps c.table.inside.table.shared.key _ _ _,
)
