use Rattle.interleavings.specs.Legal.{StandsThere, asks_itself, says_reply}
use Rattle.interleavings.proofs.Whole.{closed_free}
use Rattle.interleavings.proofs.laws.closed_histories_are_free.Goals as goal

pub returns : goal.returns
returns c = λ s claims blocks seen asks h there is.
    closed_free s asks_itself says_reply StandsThere claims blocks seen asks h there is
