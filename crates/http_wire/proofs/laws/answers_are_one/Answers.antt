use Rattle.http_wire.proofs.OneAnswer.{one}
use Rattle.http_wire.proofs.laws.answers_are_one.Goals as goal

pub returns : goal.returns
returns c = λ bytes xs ys s t a u b v. one xs ys bytes s t a u b v
