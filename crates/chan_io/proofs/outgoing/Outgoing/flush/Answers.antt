use Rattle.chan_io.proofs.Sending.{sent_all, sent_front}
use Rattle.chan_io.proofs.outgoing.Outgoing.flush.Goals as goal

pub returns-in_err-write_whole-clause-prefix : goal.returns-in_err-write_whole-clause-prefix
returns-in_err-write_whole-clause-prefix g c start text h =
    sent_front start _ _ _ text h (rw c.deref.ensures.value at c.in_err-write_whole.ensures.prefix)

pub returns-clause-sent : goal.returns-clause-sent
returns-clause-sent g c start text h =
    sent_all start _ _ _ text h c.in_ok-write_whole.ensures.prefix.alike
    (rw c.deref.ensures.value at c.in_ok-write_whole.ensures.ok)

pub returns-clause-prefix : goal.returns-clause-prefix
returns-clause-prefix g c start text h =
    sent_front start _ _ _ text h (rw c.deref.ensures.value at c.in_ok-write_whole.ensures.prefix)
