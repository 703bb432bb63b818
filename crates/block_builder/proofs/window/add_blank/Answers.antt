use Rattle.std.proofs.Common.{List, take, drop, sym, subst}
use Rattle.std.specs.Prelude.{All}
use Rattle.block_builder.specs.declared.slot.Slot.{Slot}
use Rattle.block_builder.specs.Window.{IsWindow, IsSlot, HasTick}
use Rattle.block_builder.proofs.Windows.{has_there, has_new, has_more_at, put_at_cut, slots_more}
use Rattle.block_builder.proofs.window.add_blank.Goals as goal

pub returns-then-is_at-clause-there : goal.returns-then-is_at-clause-there
returns-then-is_at-clause-there c = let yes = c.is_at.ensures.yes c.if-is_at.true in
    has_there c.args.tick c.args.slots.now.items c.cut_at-at.result yes.0 yes.1

pub returns-clause-slots : goal.returns-clause-slots
returns-clause-slots c =
    subst (λ (ss : List Slot). All (IsSlot c.args.intake) ss) (sym c.in_ok-insert.ensures.items)
    (slots_more c.args.intake c.args.slots.now.items c.cut_at-at.result c.in_ok-blank.field-0
    c.in_ok-blank.ensures.slot c.requires.slots)

pub returns-clause-window : goal.returns-clause-window
returns-clause-window c = λ first le lt m w.
    subst (λ (ss : List Slot). IsWindow c.args.intake m first ss) (sym c.in_ok-insert.ensures.items)
    (put_at_cut c.args.intake m first c.args.tick c.cut_at-at.result c.in_ok-blank.field-0
    c.args.slots.now.items le lt c.in_ok-blank.ensures.tick c.in_ok-blank.ensures.shown
    c.cut_at-at.ensures.within c.cut_at-at.ensures.cut (c.is_at.ensures.no c.if-is_at.false) w)

pub returns-clause-there : goal.returns-clause-there
returns-clause-there c =
    subst (HasTick c.args.tick) (sym c.in_ok-insert.ensures.items)
    (has_new c.args.tick c.in_ok-blank.field-0 (take c.cut_at-at.result c.args.slots.now.items)
    (drop c.cut_at-at.result c.args.slots.now.items) c.in_ok-blank.ensures.tick)

pub returns-clause-others : goal.returns-clause-others
returns-clause-others c = λ other h.
    subst (HasTick other) (sym c.in_ok-insert.ensures.items)
    (has_more_at other c.in_ok-blank.field-0 c.args.slots.now.items c.cut_at-at.result h)
