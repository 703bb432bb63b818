use Rattle.std.proofs.Common.{List, subst, set}
use Rattle.input_rule.specs.declared.view.View.{View}
use Rattle.input_rule.specs.Views.{HasSeen}
use Rattle.input_rule.specs.Words.{HasTick}
use Rattle.input_cells.specs.Agreement.{IsHeardOf}
use Rattle.input_cells.specs.Faces.{HearsAt, OnlyHears, SeatFace}
use Rattle.input_cells.proofs.Copying.{hears_set, set_had}
use Rattle.input_cells.proofs.Passes.{one_had, one_shape}
use Rattle.input_cells.proofs.read.ReadPass.copy_channel.Goals as goal

pub copy_channel-requires-clause-tick : goal.copy_channel-requires-clause-tick
copy_channel-requires-clause-tick c =
    one_shape (λ s. HasTick s c.args.tick) _ _ c.args.input _ c.table.view_is c.index-one.ensures
    c.requires.tick

pub copy_channel-requires-clause-seen : goal.copy_channel-requires-clause-seen
copy_channel-requires-clause-seen c = one_had (λ (v : View). HasSeen v c.args.tick) _ _ c.args.input
    _ c.self.view_is c.index_mut-seat.ensures.value c.requires.seen

pub returns-clause-hears : goal.returns-clause-hears
returns-clause-hears c =
    subst (λ (l : List SeatFace).
    OnlyHears l (set c.self.inside.seats.items c.args.input c.copy_channel.new.self)) c.self.view_is
    (hears_set c.self.inside.seats.items c.args.input c.index_mut-seat.result.now
    c.copy_channel.new.self
    (subst (λ (z : SeatFace). HearsAt z c.copy_channel.new.self) c.index_mut-seat.ensures.value
    c.copy_channel.ensures.hears))

pub returns-clause-value : goal.returns-clause-value
returns-clause-value c b h =
    c.copy_channel.ensures.value b
    (set_had (λ v. IsHeardOf v c.args.tick b) c.self.inside.seats.items c.args.input
    c.copy_channel.new.self h)
