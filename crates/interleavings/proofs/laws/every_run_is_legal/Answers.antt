use Rattle.interleavings.proofs.Whole.{run_legal}
use Rattle.interleavings.proofs.laws.every_run_is_legal.Goals as goal

pub returns : goal.returns
returns c = λ s ticks events run. run_legal s ticks events run
