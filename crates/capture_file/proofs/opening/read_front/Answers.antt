use Rattle.std.proofs.Common.{refl, arith}
use Rattle.capture_file.specs.Formats.{capture_magic}
use Rattle.capture_file.proofs.OpeningLaws.{begun, cut_first, fault_first, place_of, told_fault}
use Rattle.capture_file.proofs.WalkLaws.{no_reading}
use Rattle.capture_file.proofs.opening.read_front.Goals as goal

pub returns-in-Err-clause-fault : goal.returns-in-Err-clause-fault
returns-in-Err-clause-fault c =
    let none = no_reading c.in-Err.field-0 _ c.in-Err.ensures.gives
    (λ e. c.in-Err.ensures.memory (rw e refl)) in
    let parts = c.in-Some.ensures.some in
    told_fault c.fault_at-in-Err.result c.args.bytes.now _ _
    (cut_first c.args.bytes.now c.in-Some.rest.now c.in-Some.format _ _ parts none
    (place_of c.args.bytes.now (capture_magic c.in-Some.format) c.in-Some.rest.now parts) refl)
    c.fault_at-in-Err.ensures

pub returns-in-Ok-take_first-clause-begins : goal.returns-in-Ok-take_first-clause-begins
returns-in-Ok-take_first-clause-begins c =
    begun c.args.bytes.now c.in-Some.rest.now c.in-Some.format c.in-Ok-take_first.setup _ _ _
    (λ i. omega (arith, c.type_inv.bytes i)) c.in-Some.ensures.some c.in-Ok.ensures.gives
    c.in-Ok-take_first.ensures

pub returns-in-Err-Fault-clause-fault : goal.returns-in-Err-Fault-clause-fault
returns-in-Err-Fault-clause-fault c =
    let judged = rw c.in-Err-Fault.field-0-is at c.in-Err-Fault.ensures in
    let told = rw c.in-Err-Fault.field-0-is at c.fault_at-in-Err-Fault.ensures in
    let parts = c.in-Some.ensures.some in
    told_fault c.fault_at-in-Err-Fault.result c.args.bytes.now _ _
    (fault_first c.args.bytes.now c.in-Some.rest.now c.in-Some.format _ _ _ _ _ _
    (λ i. omega (arith, c.type_inv.bytes i)) parts c.in-Ok.ensures.gives judged
    (place_of c.args.bytes.now (capture_magic c.in-Some.format) c.in-Some.rest.now parts) refl)
    told
