use Rattle.std.proofs.Common.{◌∙◌, subst}
use Rattle.io_caps.specs.Device.{IsDevice}
use Rattle.sdp_audio.proofs.Devices.{device_of_few, fault_of_few}
use Rattle.sdp_audio.proofs.device.build_device.Goals as goal

pub returns-in-Ok-clause-device : goal.returns-in-Ok-clause-device
returns-in-Ok-clause-device c =
    c.in-Ok.ensures.ok
    ∙ device_of_few c.args.streams.now c.deciding.result.now c.args.hz c.args.frames c.in_ok-parts.parts c.deciding.ensures
    c.in_ok-parts.ensures c.in-Ok.ensures.within

pub returns-in-Ok-clause-within : goal.returns-in-Ok-clause-within
returns-in-Ok-clause-within c =
    subst IsDevice
    (device_of_few c.args.streams.now c.deciding.result.now c.args.hz c.args.frames c.in_ok-parts.parts c.deciding.ensures
    c.in_ok-parts.ensures c.in-Ok.ensures.within) c.in-Ok.ensures.within

pub returns-in-Err-clause-fault : goal.returns-in-Err-clause-fault
returns-in-Err-clause-fault c =
    fault_of_few c.args.streams.now c.deciding.result.now c.args.hz c.args.frames c.in_ok-parts.parts c.in-Err.error c.deciding.ensures
    c.in_ok-parts.ensures c.in-Err.ensures.first
