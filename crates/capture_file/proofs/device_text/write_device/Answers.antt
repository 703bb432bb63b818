use Rattle.std.proofs.Common.{arith}
use Rattle.capture_file.proofs.device_text.write_device.Goals as goal

pub push_record-requires : goal.push_record-requires
push_record-requires c =
    let short = c.in_ok-body.ensures.said.fits.1 in
    rw (c.deref.ensures.value, c.in_ok-body.ensures.body) (omega (arith, short))
