use Rattle.capture_file.proofs.Whole.{end_captures, fault_stops}
use Rattle.capture_file.proofs.capture.read_first.Goals as goal

pub returns-in-Ok-clause-found : goal.returns-in-Ok-clause-found
returns-in-Ok-clause-found c =
    let ends = rw c.new-items.ensures at c.in-Ok.ensures.end in
    end_captures c.args.bytes.now c.in_ok-opening.opening c.in_ok-opening.behind.now
    c.in-Ok.whole.0 c.in-Ok.whole.1 c.in_ok-opening.ensures.opened ends

pub returns-in-Err-Fault-clause-fault : goal.returns-in-Err-Fault-clause-fault
returns-in-Err-Fault-clause-fault c =
    let stops = rw (c.in-Err-Fault.field-0-is, c.new-items.ensures) at
    c.in-Err-Fault.ensures.fault in
    rw (c.placed.ensures.at, c.placed.ensures.kind)
    (fault_stops c.args.bytes.now c.in_ok-opening.opening c.in_ok-opening.behind.now
    c.in-Err-Fault.found.at c.in-Err-Fault.found.fault c.in_ok-opening.ensures.opened stops)
