use Rattle.exact_text.specs.Readings.{many_at}
use Rattle.exact_text.proofs.Loops.{goes_on, ends}
use Rattle.capture_file.specs.Replies.{pending}
use Rattle.capture_file.proofs.reading.read_pending_items.Goals as goal

pub returns-in-Err : goal.returns-in-Err
returns-in-Err c =
    let reading = (pending c.args.format).read in
    ends c.in-Err.error reading c.loop.items.items c.args.count c.loop.counter c.loop.rest.now
    (many_at reading c.args.count c.args.bytes.now) c.loop-test.true c.in-Err.ensures
    c.loop.invariant

pub loop-preserved : goal.loop-preserved
loop-preserved c =
    let reading = (pending c.args.format).read in
    rw c.in_ok-push.ensures.items (goes_on reading c.loop.items.items c.args.count c.loop.counter
    c.loop.rest.now c.in-Ok.read.0 c.in-Ok.read.1.now
    (many_at reading c.args.count c.args.bytes.now) c.loop-test.true c.in-Ok.ensures
    c.loop.invariant)
