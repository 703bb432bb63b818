use Rattle.interleavings.proofs.Shapes.{has_shape}
use Rattle.session_laws.proofs.Joined.{joined_legal}
use Rattle.session_laws.proofs.laws.joined_parts_are_legal.Goals as goal

pub returns : goal.returns
returns c = λ s g blocks m asks laps late last parts setup is parts_are.
    joined_legal s g blocks m asks laps late last parts (has_shape s setup) is parts_are
