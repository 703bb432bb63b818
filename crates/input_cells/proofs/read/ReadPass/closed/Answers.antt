use Rattle.std.proofs.Common.{◌≤◌, refl, sym, subst}
use Rattle.input_rule.specs.declared.view.View.{View}
use Rattle.input_rule.specs.Views.{closed_of, saw}
use Rattle.input_cells.specs.Faces.{Grows}
use Rattle.input_cells.proofs.Growing.{grows_changed, saw_more}
use Rattle.input_cells.proofs.Passes.{inside, one_changed, one_has, one_read}
use Rattle.input_cells.proofs.read.ReadPass.closed.Goals as goal

pub returns-clause-seen : goal.returns-clause-seen
returns-clause-seen c = one_changed (λ (v : View). saw v c.closed.result) _ _ c.args.input _ _
    c.self.view_is (inside _ _ _ c.requires.pass c.requires.input) c.index_mut-seat.ensures.value
    c.closed.ensures.seen

pub returns-clause-later : goal.returns-clause-later
returns-clause-later c = one_has (λ (v : View). closed_of v ≤ c.closed.result) _ _ c.args.input _
    c.self.view_is (inside _ _ _ c.requires.pass c.requires.input) c.index_mut-seat.ensures.value
    c.closed.ensures.later

pub returns-clause-begun : goal.returns-clause-begun
returns-clause-begun c = one_has (λ (v : View). v.shape.from ≤ c.closed.result) _ _ c.args.input _
    c.self.view_is (inside _ _ _ c.requires.pass c.requires.input) c.index_mut-seat.ensures.value
    c.closed.ensures.begun

pub returns-clause-pass : goal.returns-clause-pass
returns-clause-pass c = one_read (λ (v : View). saw v c.closed.result) (λ v. refl) _ _ _
    c.args.input c.requires.pass (returns-clause-seen c)

pub returns-clause-grows : goal.returns-clause-grows
returns-clause-grows c =
    subst (Grows c.args.self.now) (sym (returns-clause-seen c))
    (grows_changed (λ (v : View). saw v c.closed.result) (λ p. saw_more p c.closed.result)
    c.args.input c.args.self.now)
