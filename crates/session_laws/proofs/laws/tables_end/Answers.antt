use Rattle.std.proofs.Common.{length, arith}
use Rattle.std.specs.Prelude.{min}
use Rattle.session_laws.proofs.Tabled.{ended}
use Rattle.session_laws.proofs.laws.tables_end.Goals as goal

pub returns-clause-whole : goal.returns-clause-whole
returns-clause-whole c = λ plan list draws seen ends full.
    ended plan plan.packets list draws seen ends full

pub returns-clause-part : goal.returns-clause-part
returns-clause-part c = λ plan list draws seen ends.
    ended plan (min (length draws) plan.packets) list draws seen ends (omega arith)
