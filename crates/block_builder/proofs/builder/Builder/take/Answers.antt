use Rattle.std.proofs.Common.{ℕ, ◌++◌, ◌∷◌, [], List, subst, sym, arith}
use Rattle.block_builder.specs.declared.arrival.Arrival.{Arrival}
use Rattle.block_builder.specs.declared.arrival.Arrival.TheVariants.{Packet}
use Rattle.block_builder.specs.Blocks.{pieces_of}
use Rattle.block_builder.specs.Building.{IsBuilder, IsDrained}
use Rattle.block_builder.proofs.BlockLaws.{closed_le}
use Rattle.block_builder.proofs.Builders.{packet_keeps, drained_is}
use Rattle.block_builder.proofs.builder.Builder.take.Goals as goal

pub take_packet-requires-clause-given : goal.take_packet-requires-clause-given
take_packet-requires-clause-given c =
    omega (
      arith,
      c.self.invariant.handed,
      c.self.invariant.closed_is,
      closed_le c.self.inside.intake (pieces_of c.self.inside.intake c.self.inside.past.arrivals),
    )

pub invariant_of-self-2 : goal.invariant_of-self-2
invariant_of-self-2 c =
    let n = c.self.inside.intake in
    let drained = drained_is n c.self.inside.past.arrivals c.self.inside.slots.items
    c.self.inside.given c.self.inside.closed (subst IsDrained (sym c.self.view_is) c.requires)
    c.self.invariant in
    subst (λ (all : List Arrival).
    IsBuilder n all c.take_packet.new.slots.items c.self.inside.given c.max-self-inside.result)
    (sym c.then-self-inside.ensures)
    (subst (λ (k : ℕ). IsBuilder n (c.self.inside.past.arrivals ++ Packet c.args.packet.now ∷ [])
    c.take_packet.new.slots.items c.self.inside.given k) (sym c.max-self-inside.ensures)
    (packet_keeps n c.self.inside.past.arrivals (Packet c.args.packet.now) c.self.inside.slots.items
    c.take_packet.new.slots.items c.self.inside.given c.self.inside.closed c.in_ok-taken.upto
    drained c.in_ok-taken.ensures.closes c.take_packet.ensures.slots c.in_ok-taken.ensures.ok
    c.self.invariant))
