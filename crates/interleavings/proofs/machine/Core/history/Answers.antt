use Rattle.interleavings.specs.Core.{taken_in}
use Rattle.interleavings.proofs.Stepping.{is_run, passing}
use Rattle.interleavings.proofs.Whole.{run_legal}
use Rattle.interleavings.proofs.machine.Core.history.Goals as goal

pub returns-clause-run : goal.returns-clause-run
returns-clause-run c =
    rw (← c.self.view_is)
    (is_run c.self.inside.session.setup c.self.inside.session.ticks c.self.inside.events)

pub returns-clause-legal : goal.returns-clause-legal
returns-clause-legal c =
    let session = c.self.inside.session in
    let events = c.self.inside.events in
    rw (← c.self.view_is)
    (run_legal session.setup session.ticks (taken_in session events)
    (is_run session.setup session.ticks events))

pub returns-clause-rows : goal.returns-clause-rows
returns-clause-rows c =
    let session = c.self.inside.session in
    let events = c.self.inside.events in
    rw (← c.self.view_is, c.self.invariant.ready.history)
    (passing session.setup session.ticks events c.self.invariant.setup)
