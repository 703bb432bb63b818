use Rattle.std.proofs.Common.{refl}
use Rattle.capture_file.proofs.JsonLaws.{refused_says}
use Rattle.capture_file.proofs.opening.take_json_device.Goals as goal

pub returns-in-Err-Fault : goal.returns-in-Err-Fault
returns-in-Err-Fault c =
    let refused = rw c.in-Err-Fault.field-0-is at c.in-Err-Fault.ensures in
    (refl, λ setup h. refused_says c.args.body.now c.in-Err-Fault.field-0-0 refused setup h.0 h.1)
