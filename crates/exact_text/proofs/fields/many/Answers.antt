use Rattle.std.proofs.lemmas.Result.{err_from_is_err_and}
use Rattle.exact_text.specs.Readings.{many_at}
use Rattle.exact_text.proofs.Loops.{goes_on, ends}
use Rattle.exact_text.proofs.fields.many.Goals as goal

pub returns-in_err-value : goal.returns-in_err-value
returns-in_err-value g c =
    let reading = g.R.Reads.reading in
    let p = err_from_is_err_and c.from_residual.result c.from_residual.ensures.1 in
    rw (p.1, p.2) (ends c.in_err-value.field-0.0 reading c.loop.values.items c.args.count
    c.loop.counter c.loop.rest.now
    (many_at reading c.args.count c.args.bytes.now) c.loop-test.true c.in_err-value.ensures
    c.loop.invariant)

pub loop-preserved : goal.loop-preserved
loop-preserved g c =
    let reading = g.R.Reads.reading in
    rw c.in_ok-push.ensures.items (goes_on reading c.loop.values.items c.args.count c.loop.counter
    c.loop.rest.now c.in_ok-value.value c.in_ok-value.after.now
    (many_at reading c.args.count c.args.bytes.now) c.loop-test.true c.in_ok-value.ensures
    c.loop.invariant)
