use Rattle.std.proofs.Common.{List, subst}
use Rattle.sdp_audio.specs.declared.stream.Stream.{Stream}
use Rattle.sdp_audio.specs.Made.{IsMakeFault}
use Rattle.sdp_audio.proofs.Devices.{make_fault}
use Rattle.sdp_audio.proofs.device.device_from.Goals as goal

pub returns-in-Err-Fault-clause-fault : goal.returns-in-Err-Fault-clause-fault
returns-in-Err-Fault-clause-fault c =
    let ok = c.in-Ok.ensures in
    make_fault c.as_slice-streams.result.now c.args.streams.now c.in-Ok.hz c.args.frames c.in-Err-Fault.fault c.as_slice-streams.ensures
    ok.some ok.one_rate ok.hz (rw c.in-Err-Fault.field-0-is at c.in-Err-Fault.ensures.fault)

pub returns-in-Err-clause-fault : goal.returns-in-Err-clause-fault
returns-in-Err-clause-fault c =
    subst (λ (s : List Stream). IsMakeFault s c.args.frames c.in-Err.fault) c.as_slice-streams.ensures
    (c.in-Err.ensures.fault c.args.frames)
