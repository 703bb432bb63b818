use Rattle.std.proofs.Common.{refl}
use Rattle.input_rule.specs.declared.view.View.{View}
use Rattle.input_rule.specs.Views.{looked, saw}
use Rattle.input_cells.proofs.Growing.{grows_on}
use Rattle.input_cells.proofs.Once.{closed_once, open_once, step_apart, untouched_then}
use Rattle.input_cells.proofs.read.ReadPass.look_behind.Goals as goal

pub returns-then-closed-tick-clause-err : goal.returns-then-closed-tick-clause-err
returns-then-closed-tick-clause-err c =
    open_once c.args.table.now c.args.self.now c.closed-closed.new.self c.args.input c.args.tick _
    c.requires.pass c.requires.input c.closed-closed.ensures.seen refl c.if-closed-tick.true

pub returns-then-closed-tick-clause-apart : goal.returns-then-closed-tick-clause-apart
returns-then-closed-tick-clause-apart c i apart =
    step_apart (λ (v : View). saw v c.closed-closed.result) c.args.self.now c.closed-closed.new.self
    c.args.input i c.closed-closed.ensures.seen apart

pub returns-clause-ok : goal.returns-clause-ok
returns-clause-ok c =
    closed_once c.args.table.now c.args.self.now c.closed-closed.new.self c.look.new.self
    c.args.input c.args.tick c.closed-closed.result c.look.result c.requires.numbered
    c.requires.pass c.closed-closed.ensures.pass c.closed-closed.ensures.grows c.requires.input
    c.closed-closed.ensures.seen c.look.ensures.seen c.look.ensures.saw c.look.ensures.again
    c.if-closed-tick.false

pub returns-clause-apart : goal.returns-clause-apart
returns-clause-apart c i apart =
    untouched_then c.args.self.now c.closed-closed.new.self c.look.new.self i
    (step_apart (λ (v : View). saw v c.closed-closed.result) c.args.self.now
    c.closed-closed.new.self c.args.input i c.closed-closed.ensures.seen apart)
    (step_apart (λ (v : View). looked v c.args.tick c.look.result) c.closed-closed.new.self
    c.look.new.self c.args.input i c.look.ensures.seen apart)

pub returns-clause-grows : goal.returns-clause-grows
returns-clause-grows c = grows_on c.args.self.now c.closed-closed.new.self c.look.new.self
    c.closed-closed.ensures.grows c.look.ensures.grows
