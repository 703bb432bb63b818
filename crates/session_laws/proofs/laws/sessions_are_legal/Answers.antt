use Rattle.session_laws.specs.Facts.Gathering.{GatherClosed, GatherFree}
use Rattle.interleavings.proofs.Shapes.{has_shape}
use Rattle.session_laws.proofs.Sessions.{session_legal}
use Rattle.session_laws.proofs.laws.sessions_are_legal.Goals as goal

pub returns-clause-closed : goal.returns-clause-closed
returns-clause-closed c = λ s blocks m asks laps late last claims some is moved rises.
    session_legal s GatherClosed blocks m asks laps late last claims (has_shape s some) is moved
    rises

pub returns-clause-free : goal.returns-clause-free
returns-clause-free c = λ s seen blocks m asks laps late last claims some is moved rises.
    session_legal s (GatherFree seen) blocks m asks laps late last claims (has_shape s some) is
    moved rises
