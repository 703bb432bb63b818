use Rattle.capture_file.proofs.PartLaws.{between_left, between_next}
use Rattle.capture_file.proofs.Between.{made_more}
use Rattle.capture_file.proofs.parts.write_between.Goals as goal

pub push_between-requires : goal.push_between-requires
push_between-requires c =
    between_left c.args.format 0 c.loop-number.number c.args.calls.now _ c.args.replies.now _ c.requires
    c.loop-number.invariant.held

pub loop-number-preserved : goal.loop-number-preserved
loop-number-preserved c =
    let i = c.loop-number.invariant in
    record {
      held = between_next c.loop-number.number c.args.calls.now _ _ c.args.replies.now _ _
          i.held c.in_ok-left.ensures.held;
      made = rw (
        c.in_ok-push.ensures.ok,
        c.from_vec.ensures,
        c.in_ok-left.ensures.ok,
        c.new-text.ensures.items,
      )
          (made_more c.args.format c.args.calls.now _ c.args.replies.now _ c.loop-number.number _ i.held i.made);
    }
