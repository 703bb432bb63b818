use Rattle.packet_worker.proofs.Ending.{agree_all, draws_joined}
use Rattle.packet_worker.proofs.Working.{drawn_in_part}
use Rattle.packet_worker.proofs.laws.ends_are_told.Goals as goal

pub returns-clause-in_part : goal.returns-clause-in_part
returns-clause-in_part c = drawn_in_part

pub returns-clause-joined : goal.returns-clause-joined
returns-clause-joined c = draws_joined

pub returns-clause-agree : goal.returns-clause-agree
returns-clause-agree c = agree_all
