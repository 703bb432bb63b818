use Rattle.std.proofs.Common.{◌<◌, length, arith}
use Rattle.api_routes.proofs.TableLemmas.{inserted, one_more}
use Rattle.api_routes.proofs.routes.build.Goals as goal

pub loop-text-preserved : goal.loop-text-preserved
loop-text-preserved c =
    let in_range : c.loop-text.text-index < length c.args.routes.now = omega arith in
    one_more (λ r. (r.0.now, r.1)) c.args.routes.now c.loop-text.text-index _ c.loop-text.router _ _
    in_range
    (inserted _ _ _ _ _ c.in_ok-insert.ensures) c.loop-text.invariant
