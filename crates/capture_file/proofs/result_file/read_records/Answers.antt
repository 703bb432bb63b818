use Rattle.std.proofs.Common.{◌≡◌, drop, length, rules, arith}
use Rattle.exact_text.proofs.FieldLaws.{literal_parts}
use Rattle.capture_file.specs.Formats.{result_magic}
use Rattle.capture_file.proofs.ResultWhole.{end_is, ends_past, ends_whole, fault_breaks}
use Rattle.capture_file.proofs.result_file.read_records.Goals as goal

pub returns-in-Ok-walk-clause-found : goal.returns-in-Ok-walk-clause-found
returns-in-Ok-walk-clause-found c =
    let read = rw (c.result_magic.ensures, c.bytes_from.ensures) at c.in-Ok.ensures.gives in
    let magic = literal_parts (result_magic c.args.format) (drop c.args.start c.args.bytes.now)
    c.in-Ok.behind.now read in
    let ends = rw c.new-records.ensures at c.in-Ok-walk.ensures.end in
    ends_whole c.args.format c.args.device.now c.args.bytes.now c.args.start c.in-Ok-walk.file
    c.in-Ok-walk.end (omega (arith, c.if-end-bytes.true))
    (end_is c.args.format c.args.device.now c.args.bytes.now c.args.start c.in-Ok.behind.now
    c.in-Ok-walk.file c.in-Ok-walk.end c.requires magic.0 ends)

pub returns-in-Ok-2-clause-fault : goal.returns-in-Ok-2-clause-fault
returns-in-Ok-2-clause-fault c =
    let read = rw (c.result_magic.ensures, c.bytes_from.ensures) at c.in-Ok.ensures.gives in
    let magic = literal_parts (result_magic c.args.format) (drop c.args.start c.args.bytes.now)
    c.in-Ok.behind.now read in
    let ends = rw c.new-records.ensures at c.in-Ok-walk.ensures.end in
    let never : c.in-Ok-walk.end ≡ length c.args.bytes.now → ⊥ =
    λ e. absurd (search (rules, e, c.if-end-bytes.false)) in
    rw (c.fault_at-in-Ok-2.ensures.at, c.fault_at-in-Ok-2.ensures.kind)
    (ends_past c.args.format c.args.device.now c.args.bytes.now c.args.start c.in-Ok-walk.file
    c.in-Ok-walk.end never
    (end_is c.args.format c.args.device.now c.args.bytes.now c.args.start c.in-Ok.behind.now
    c.in-Ok-walk.file c.in-Ok-walk.end c.requires magic.0 ends))

pub returns-in-Err-Fault-clause-fault : goal.returns-in-Err-Fault-clause-fault
returns-in-Err-Fault-clause-fault c =
    let read = rw (c.result_magic.ensures, c.bytes_from.ensures) at c.in-Ok.ensures.gives in
    let magic = literal_parts (result_magic c.args.format) (drop c.args.start c.args.bytes.now)
    c.in-Ok.behind.now read in
    let breaks = rw (c.in-Err-Fault.field-0-is, c.new-records.ensures) at
    c.in-Err-Fault.ensures.fault in
    rw (c.placed.ensures.at, c.placed.ensures.kind)
    (fault_breaks c.args.format c.args.device.now c.args.bytes.now c.args.start c.in-Ok.behind.now
    c.in-Err-Fault.found.at c.in-Err-Fault.found.fault c.requires magic.0 breaks)
