use Rattle.std.proofs.Common.{arith}
use Rattle.std.proofs.lemmas.Result.{err_from_is_err_and}
use Rattle.chanmap.proofs.Inputs.{refused, trailing, whole_input}
use Rattle.chanmap.proofs.input.read_all.Goals as goal

pub returns-in_err-capture-clause-fault : goal.returns-in_err-capture-clause-fault
returns-in_err-capture-clause-fault c =
    let p = err_from_is_err_and c.from_residual.result c.from_residual.ensures.1 in
    let read = c.in_err-capture.ensures in
    rw (p.1, p.2) (refused c.args.bytes.now c.in_err-capture.field-0.0 read.fault read.only)

pub returns-then-place-bytes-clause-found : goal.returns-then-place-bytes-clause-found
returns-then-place-bytes-clause-found c =
    let read = c.in_ok-capture.ensures in
    whole_input c.args.bytes.now c.in_ok-capture.capture c.in_ok-capture.place
    (omega arith) read.found read.only read.exact

pub returns-clause-fault : goal.returns-clause-fault
returns-clause-fault c =
    let read = c.in_ok-capture.ensures in
    trailing c.args.bytes.now c.in_ok-capture.capture c.in_ok-capture.place
    (omega (arith, read.found.within)) read.found read.only
