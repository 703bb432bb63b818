use Rattle.interleavings.specs.Told.{Ask}
use Rattle.interleavings.proofs.Shapes.{has_shape}
use Rattle.session_laws.proofs.Sessions.{session_told}
use Rattle.session_laws.proofs.laws.told_sessions_are_legal.Goals as goal

pub returns : goal.returns
returns c =
    λ s g blocks m requests asks laps late last claims items setup is moved rises said order.
    session_told s (λ (ask : Ask). ask.asked) (λ (ask : Ask). ask.says) g blocks m requests asks
    laps late last claims items (has_shape s setup) is moved rises said order
