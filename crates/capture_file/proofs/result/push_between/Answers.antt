use Rattle.std.proofs.Common.{eqb}
use Rattle.capture_file.specs.Parts.{HoldsItem}
use Rattle.capture_file.specs.Result.{FitsCall}
use Rattle.capture_file.proofs.RunLaws.{run_fits}
use Rattle.capture_file.proofs.result.push_between.Goals as goal

pub push_calls-requires : goal.push_calls-requires
push_calls-requires c =
    rw c.split_run.ensures.run
    (run_fits (λ r. eqb r.at c.args.number) (FitsCall c.args.format) c.args.left.now.calls.now c.requires.calls_fit)

pub push_replies-requires : goal.push_replies-requires
push_replies-requires c =
    rw c.split_run-2.ensures.run
    (run_fits (λ r. eqb r.stamp.claims c.args.number) (HoldsItem c.args.format) c.args.left.now.replies.now
    c.requires.replies_fit)
