use Rattle.packet_worker.proofs.Working.{begun, closed, closed_free, drawn, due_on, free, over}
use Rattle.packet_worker.proofs.Working.{paced, unsent}
use Rattle.packet_worker.proofs.laws.jobs_go_on.Goals as goal

pub returns-clause-begun : goal.returns-clause-begun
returns-clause-begun c = begun

pub returns-clause-drawn : goal.returns-clause-drawn
returns-clause-drawn c = drawn

pub returns-clause-over : goal.returns-clause-over
returns-clause-over c = over

pub returns-clause-open : goal.returns-clause-open
returns-clause-open c g t inputs claim e w x items due ends =
    due_on g t inputs claim w x items due ends.on

pub returns-clause-closed : goal.returns-clause-closed
returns-clause-closed c t inputs claim got w x items due ends =
    closed t inputs claim got w x items due ends.on ends.gives

pub returns-clause-free : goal.returns-clause-free
returns-clause-free c seen t inputs claim got w x items due ends before =
    free seen t inputs claim got w x items due ends.on ends.gives before

pub returns-clause-paced : goal.returns-clause-paced
returns-clause-paced c = paced

pub returns-clause-closed_free : goal.returns-clause-closed_free
returns-clause-closed_free c seen t inputs claim got w x items due ends before =
    closed_free seen t inputs claim got w x items due ends.on ends.gives before

pub returns-clause-unsent : goal.returns-clause-unsent
returns-clause-unsent c = unsent
