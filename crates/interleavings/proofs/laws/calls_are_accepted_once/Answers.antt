use Rattle.interleavings.specs.Told.{Ask}
use Rattle.interleavings.proofs.Once.{each_once}
use Rattle.interleavings.proofs.laws.calls_are_accepted_once.Goals as goal

pub returns : goal.returns
returns c = λ s journal claims asks items are replied.
    each_once s (λ (ask : Ask). ask.asked) (λ (ask : Ask). ask.says) journal claims asks items are
    replied
