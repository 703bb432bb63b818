use Rattle.std.proofs.Common.{◌≡◌, List, Option, ℤ, subst}
use Rattle.std.specs.Prelude.{IfOk}
use Rattle.block_builder.proofs.Yardsticks.{by_rule}
use Rattle.block_builder.proofs.yardstick.block_by_rule.Goals as goal

pub returns : goal.returns
returns c =
    subst (λ (b : Option (List ℤ)). IfOk c.block_at.result (λ block. block ≡ b))
    (by_rule c.args.device.now c.args.input c.args.ticks c.of-intake.result c.args.arrivals.now
    c.args.tick c.base.result c.of-intake.ensures.value c.base.ensures.value) c.block_at.ensures
