use Rattle.session_laws.proofs.Gathered.{closed_item, free_item, known, worked_more, worked_over}
use Rattle.session_laws.proofs.Gathered.{worked_still}
use Rattle.session_laws.proofs.laws.packets_are_claims.Goals as goal

pub returns-clause-closed : goal.returns-clause-closed
returns-clause-closed c = closed_item

pub returns-clause-free : goal.returns-clause-free
returns-clause-free c = free_item

pub returns-clause-known : goal.returns-clause-known
returns-clause-known c = known

pub returns-clause-none : goal.returns-clause-none
returns-clause-none c = λ s g from packets blocks agrees. tt

pub returns-clause-more : goal.returns-clause-more
returns-clause-more c = worked_more

pub returns-clause-over : goal.returns-clause-over
returns-clause-over c = worked_over

pub returns-clause-still : goal.returns-clause-still
returns-clause-still c = worked_still
