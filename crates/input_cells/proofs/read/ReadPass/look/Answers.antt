use Rattle.std.proofs.Common.{◌<◌, List, length, refl, sym, subst, arith}
use Rattle.input_rule.specs.declared.view.View.{View}
use Rattle.input_rule.specs.Views.{HasMissed, HasSeen, looked}
use Rattle.input_rule.specs.Words.{HasTick}
use Rattle.input_cells.specs.Faces.{Grows, SeatFace}
use Rattle.input_cells.proofs.Growing.{grows_changed, looked_more}
use Rattle.input_cells.proofs.Passes.{inside, one_changed, one_had, one_read, one_shape, set_has}
use Rattle.input_cells.proofs.read.ReadPass.look.Goals as goal

pub look-requires-clause-tick : goal.look-requires-clause-tick
look-requires-clause-tick c =
    one_shape (λ s. HasTick s c.args.tick) _ _ c.args.input _ c.table.view_is c.index-one.ensures
    c.requires.tick

pub returns-clause-seen : goal.returns-clause-seen
returns-clause-seen c = one_changed (λ (v : View). looked v c.args.tick c.look.result) _ _
    c.args.input _ _ c.self.view_is
    (inside _ _ _ c.requires.pass (let i = c.requires.input in omega arith))
    c.index_mut-seat.ensures.value c.look.ensures.seen

pub returns-clause-again : goal.returns-clause-again
returns-clause-again c seen =
    c.look.ensures.again
    (one_had (λ (v : View). HasSeen v c.args.tick) _ _ c.args.input _ c.self.view_is
    c.index_mut-seat.ensures.value seen)

pub returns-clause-never : goal.returns-clause-never
returns-clause-never c missed =
    c.look.ensures.never
    (one_had (λ (v : View). HasMissed v c.args.tick) _ _ c.args.input _ c.self.view_is
    c.index_mut-seat.ensures.value missed)

pub returns-clause-pass : goal.returns-clause-pass
returns-clause-pass c = one_read (λ (v : View). looked v c.args.tick c.look.result) (λ v. refl) _ _
    _ c.args.input c.requires.pass (returns-clause-seen c)

pub returns-clause-saw : goal.returns-clause-saw
returns-clause-saw c there = set_has (λ (v : View). HasSeen v c.args.tick) c.self.inside.seats.items
    c.args.input c.look.new.self
    (subst (λ (l : List SeatFace). c.args.input < length l) (sym c.self.view_is)
    (inside _ _ _ c.requires.pass (let i = c.requires.input in omega arith)))
    (c.look.ensures.saw there)

pub returns-clause-grows : goal.returns-clause-grows
returns-clause-grows c =
    subst (Grows c.args.self.now) (sym (returns-clause-seen c))
    (grows_changed (λ (v : View). looked v c.args.tick c.look.result)
    (λ p. looked_more p c.args.tick c.look.result) c.args.input c.args.self.now)
