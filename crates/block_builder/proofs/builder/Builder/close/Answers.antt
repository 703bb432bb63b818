use Rattle.std.proofs.Common.{ℕ, List, ◌++◌, ◌∷◌, [], subst, sym, ap, ◌∙◌, arith}
use Rattle.block_builder.specs.declared.arrival.Arrival.{Arrival}
use Rattle.block_builder.specs.Blocks.{pieces_by}
use Rattle.block_builder.specs.Building.{Building, IsBuilder}
use Rattle.block_builder.specs.ArrivalRef.{arrival_of}
use Rattle.block_builder.proofs.Builders.{clock_keeps}
use Rattle.block_builder.proofs.builder.Builder.close.Goals as goal

pub invariant_of-self : goal.invariant_of-self
invariant_of-self c =
    let n = c.self.inside.intake in
    subst (λ (all : List Arrival).
    IsBuilder n all c.self.inside.slots.items c.self.inside.given c.max-self-inside.result)
    (sym c.then-self-inside.ensures)
    (subst (λ (k : ℕ). IsBuilder n (c.self.inside.past.arrivals ++ arrival_of c.args.came.now ∷ [])
    c.self.inside.slots.items c.self.inside.given k) (sym c.max-self-inside.ensures)
    (clock_keeps n c.self.inside.past.arrivals (arrival_of c.args.came.now) c.args.last
    c.self.inside.slots.items c.self.inside.given c.self.inside.closed c.min-upto.result
    (ap (λ (b : Building). pieces_by b.intake (arrival_of c.args.came.now)) c.self.view_is
    ∙ c.requires) (omega (arith, c.min-upto.ensures, c.saturating_sub.ensures)) c.self.invariant))
