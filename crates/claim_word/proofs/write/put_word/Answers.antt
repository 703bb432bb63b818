use Rattle.std.proofs.Common.{◌∙◌, sym, ap, refl, arith}
use Rattle.claim_rule.proofs.Steps.{writes_keeps}
use Rattle.claim_word.proofs.write.put_word.Goals as goal

pub store-requires : goal.store-requires
store-requires c = (
  c.requires.table ∙ sym (ap (λ z. z.id) c.table.view_is),
  omega (arith, c.table.invariant.1, c.requires.behind.1),
  writes_keeps c.table.inside.table.shared.key _ _ _ _ c.args.cell _ refl c.requires.publishes
      c.requires.behind.0,
)
