use Rattle.std.proofs.Common.{List, subst}
use Rattle.sdp_audio.specs.Made.{IsMakeFault}
use Rattle.sdp_audio.specs.declared.stream.Stream.{Stream}
use Rattle.chanmap.proofs.commands.from_sdp.described_setup.Goals as goal

pub returns-in-Err-Fault-setup_from-clause-fault : goal.returns-in-Err-Fault-setup_from-clause-fault
returns-in-Err-Fault-setup_from-clause-fault c =
    let refused = c.in-Err-Fault-setup_from in (
      c.in-Ok.ensures.ok,
      subst (λ (s : List Stream). IsMakeFault s c.args.frames refused.fault)
          c.in-Ok.ensures.streams (rw refused.field-0-is at refused.ensures.fault),
    )
