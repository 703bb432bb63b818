use Rattle.std.proofs.Common.{subst, sym}
use Rattle.chanmap.specs.Top.{IsFaulty}
use Rattle.chanmap.specs.declared.command.Command.TheVariants.{Sdp}
use Rattle.chanmap.proofs.commands.sdp.sdp.Goals as goal

pub returns-in-Err-Fault-clause-ends : goal.returns-in-Err-Fault-clause-ends
returns-in-Err-Fault-clause-ends g c =
    let found = rw c.in-Err-Fault.field-0-is at c.in-Err-Fault.ensures.fault in
    subst (IsFaulty Sdp c.args.bytes.now) (sym c.in-Err-Fault.fault-is)
    (record { first = found.first; none = found.none })
