use Rattle.std.proofs.Common.{rules, arith, get_or, pos, w32, SFits}
use Rattle.std.proofs.lemmas.Int.{to_z-of_z}
use Rattle.monitors.proofs.Levels.{level_more}
use Rattle.monitors.proofs.packets.Seen.level.Goals as goal

pub loop-sample-preserved : goal.loop-sample-preserved
loop-sample-preserved c =
    let items = c.as_slice-sample-items.result.now in
    let fits : SFits w32 (get_or items c.loop-sample.sample-index (pos 0)) = search rules in
    let more = level_more items c.loop-sample.sample-index (pos 0) c.loop-sample-test.true in
    grind (
      arith,
      to_z-of_z,
      more,
      c.unsigned_abs.ensures.value,
      c.max-level.ensures,
      c.loop-sample.invariant,
      c.as_slice-sample-items.ensures,
    )
