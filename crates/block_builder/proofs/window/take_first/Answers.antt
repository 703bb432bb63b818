use Rattle.std.proofs.Common.{List, sym, subst}
use Rattle.std.specs.Prelude.{All}
use Rattle.std.proofs.lemmas.List.Elements.{All-drop}
use Rattle.block_builder.specs.declared.slot.Slot.{Slot}
use Rattle.block_builder.specs.Window.{IsSlot}
use Rattle.block_builder.proofs.Blank.{block_absent}
use Rattle.block_builder.proofs.Windows.{past_absent}
use Rattle.block_builder.proofs.window.take_first.Goals as goal

pub returns-then-not-is_first-clause-block : goal.returns-then-not-is_first-clause-block
returns-then-not-is_first-clause-block c =
    λ n m lt w. block_absent n (m c.args.tick)
    (past_absent n m c.args.tick c.args.slots.now.items lt
    (c.is_first.ensures.no c.if-not-is_first.true) w)

pub returns-in-Some-clause-slots : goal.returns-in-Some-clause-slots
returns-in-Some-clause-slots c =
    λ n h. subst (λ (ss : List Slot). All (IsSlot n) ss) (sym c.pop_front.ensures.rest)
    (All-drop (IsSlot n) 1 c.args.slots.now.items h)
