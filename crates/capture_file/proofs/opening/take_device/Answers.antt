use Rattle.std.proofs.Common.{refl, arith}
use Rattle.capture_file.proofs.RecordLaws.{base_found, no_base, base_refused, device_refused}
use Rattle.capture_file.proofs.opening.take_device.Goals as goal

pub returns-in-Err-NoReading : goal.returns-in-Err-NoReading
returns-in-Err-NoReading c =
    let none = rw c.in-Err-NoReading.field-0-is at c.in-Err-NoReading.ensures in
    (refl, λ setup h. no_base c.args.body.now none setup h)

pub returns-in-Err : goal.returns-in-Err
returns-in-Err c = (
  refl,
  λ setup h. device_refused c.args.body.now c.in-Ok.base.0 c.in-Ok.base.1 c.in-Ok.ensures
      c.in-Err.ensures.fault setup h,
)

pub returns-in-Ok-build-2 : goal.returns-in-Ok-build-2
returns-in-Ok-build-2 c =
    let is = rw c.in-Ok-build.ensures.ok at c.in-Ok-build-2.ensures.within in
    let e = rw c.in-Ok-build.ensures.ok at c.in-Ok-build-2.ensures.ok in
    rw e (base_found c.args.body.now c.in-Ok.base.0 c.in-Ok.base.1
    (λ i. omega (arith, c.type_inv.body i)) c.in-Ok.ensures is)

pub returns-in-Err-build : goal.returns-in-Err-build
returns-in-Err-build c =
    let never = rw c.in-Ok-build.ensures.ok at c.in-Err-build.ensures.fault in (
      refl,
      λ setup h. base_refused c.args.body.now c.in-Ok.base.0 c.in-Ok.base.1 c.in-Ok.ensures
          never setup h,
    )
