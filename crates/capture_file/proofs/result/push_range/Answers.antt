use Rattle.std.proofs.Common.{arith}
use Rattle.capture_file.proofs.PartLaws.{held_left, held_next, range_next}
use Rattle.capture_file.proofs.result.push_range.Goals as goal

pub push_at-requires : goal.push_at-requires
push_at-requires c =
    held_left c.args.format c.args.from c.loop-number.number c.args.all.now.between.calls.now _
    c.args.all.now.between.replies.now _
    c.args.all.now.claims.now _ c.requires.left c.loop-number.invariant.held

pub loop-number-preserved : goal.loop-number-preserved
loop-number-preserved c =
    let i = c.loop-number.invariant in
    record {
      held = held_next c.loop-number.number c.args.all.now.between.calls.now _ _
          c.args.all.now.between.replies.now _ _
          c.args.all.now.claims.now _ _ i.held c.in_ok-left.ensures.held;
      above = omega (arith, i.above);
      written = range_next c.args.format c.args.out.now.items c.args.all.now.between.calls.now _
          c.args.all.now.between.replies.now _
          c.args.all.now.claims.now _ c.args.from c.loop-number.number _ _ i.above i.held i.written
          c.in_ok-left.ensures.ok;
    }
