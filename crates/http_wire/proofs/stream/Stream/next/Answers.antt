use Rattle.std.proofs.Common.{rules}
use Rattle.http_wire.proofs.RunLemmas.{refuses, waits, answers_on}
use Rattle.http_wire.proofs.stream.Stream.next.Goals as goal

pub returns-in-Refused-clause-ok : goal.returns-in-Refused-clause-ok
returns-in-Refused-clause-ok c =
    refuses c.self.inside.closed c.self.inside.held c.args.self.now c.in-Refused.status c.if-self.false c.self.view_is
    (rw c.as_slice.ensures at c.in-Refused.ensures.front)

pub returns-in-Refused-clause-whole : goal.returns-in-Refused-clause-whole
returns-in-Refused-clause-whole c = answers_on _ _ _ (returns-in-Refused-clause-ok c)

pub returns-in-None-clause-ok : goal.returns-in-None-clause-ok
returns-in-None-clause-ok c =
    waits c.self.inside.closed c.self.inside.held c.args.self.now c.if-self.false c.self.view_is
    (rw (c.as_slice-in-Found.ensures, c.in-None.is) at c.in_ok-read_request-in-Found.ensures)

pub returns-in-None-clause-whole : goal.returns-in-None-clause-whole
returns-in-None-clause-whole c = answers_on _ _ _ (returns-in-None-clause-ok c)

pub returns-in-Some-clause-ok : goal.returns-in-Some-clause-ok
returns-in-Some-clause-ok c = search rules

pub returns-in-Some-clause-whole : goal.returns-in-Some-clause-whole
returns-in-Some-clause-whole c = answers_on _ _ _ (returns-in-Some-clause-ok c)
