use Rattle.http_wire.proofs.HeadLemmas.{refused_doubtful, told_apart}
use Rattle.http_wire.proofs.laws.refusals_are_due.Goals as goal

pub returns-clause-doubtful : goal.returns-clause-doubtful
returns-clause-doubtful c = λ bytes status refused. refused_doubtful bytes status refused

pub returns-clause-apart : goal.returns-clause-apart
returns-clause-apart c = λ bytes line bad large. told_apart bytes line bad large
