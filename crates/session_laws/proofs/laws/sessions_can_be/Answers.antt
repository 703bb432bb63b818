use Rattle.session_laws.specs.Facts.Gathering.{GatherClosed, GatherFree}
use Rattle.session_laws.proofs.Possible.{session_is}
use Rattle.session_laws.proofs.laws.sessions_can_be.Goals as goal

pub returns-clause-closed : goal.returns-clause-closed
returns-clause-closed c = λ s blocks ticks given journal shapes is.
    session_is s GatherClosed blocks ticks given journal tt shapes is

pub returns-clause-free : goal.returns-clause-free
returns-clause-free c = λ s seen blocks ticks given journal shapes there is.
    session_is s (GatherFree seen) blocks ticks given journal there shapes is
