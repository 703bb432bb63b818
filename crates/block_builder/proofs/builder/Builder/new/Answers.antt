use Rattle.std.proofs.Common.{[], List, sym, subst}
use Rattle.block_builder.specs.declared.arrival.Arrival.{Arrival}
use Rattle.block_builder.specs.declared.slot.Slot.{Slot}
use Rattle.block_builder.specs.Building.{IsBuilder}
use Rattle.block_builder.proofs.Builders.{builder_begins}
use Rattle.block_builder.proofs.builder.Builder.new.Goals as goal

pub invariant_of-result : goal.invariant_of-result
invariant_of-result c =
    subst (λ (all : List Arrival). IsBuilder c.of.result all c.new.result.items 0 0)
    (sym c.new-2.ensures)
    (subst (λ (ss : List Slot). IsBuilder c.of.result [] ss 0 0) (sym c.new.ensures.items)
    (builder_begins c.of.result c.of.ensures.numbers))
