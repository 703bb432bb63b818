use Rattle.std.proofs.Common.{◌<◌, ◌∙◌, arith}
use Rattle.block_builder.specs.Blocks.{pieces_of, held_at}
use Rattle.block_builder.proofs.BlockLaws.{closed_le}
use Rattle.block_builder.proofs.Builders.{block_given}
use Rattle.block_builder.proofs.builder.Builder.next_closed.Goals as goal

pub overflow_add-result : goal.overflow_add-result
overflow_add-result c =
    let n = c.self.inside.intake in
    omega (
      arith,
      c.self.invariant.numbers.last,
      c.self.invariant.numbers.ticks,
      c.self.invariant.closed_is,
      closed_le n (pieces_of n c.self.inside.past.arrivals),
      c.if-self.false,
    )

pub invariant_of-self : goal.invariant_of-self
invariant_of-self c =
    let n = c.self.inside.intake in
    let lt : c.self.inside.given < n.ticks =
    omega (
      arith,
      c.self.invariant.closed_is,
      closed_le n (pieces_of n c.self.inside.past.arrivals),
      c.if-self.false,
    ) in
    record {
      numbers = c.self.invariant.numbers;
      closed_is = c.self.invariant.closed_is;
      handed = omega (arith, c.if-self.false);
      slots_fit = c.take_first-block.ensures.slots n c.self.invariant.slots_fit;
      window = c.take_first-block.ensures.window n
          (held_at n (pieces_of n c.self.inside.past.arrivals)) lt c.self.invariant.window;
    }

pub returns-clause-block : goal.returns-clause-block
returns-clause-block c =
    let n = c.self.inside.intake in
    let lt : c.self.inside.given < n.ticks =
    omega (
      arith,
      c.self.invariant.closed_is,
      closed_le n (pieces_of n c.self.inside.past.arrivals),
      c.if-self.false,
    ) in
    rw (← c.self.view_is) (c.take_first-block.ensures.block n
    (held_at n (pieces_of n c.self.inside.past.arrivals)) lt c.self.invariant.window
    ∙ block_given n c.self.inside.past.arrivals c.self.inside.given)

pub returns-clause-within : goal.returns-clause-within
returns-clause-within c =
    let n = c.self.inside.intake in
    rw (← c.self.view_is) (omega (
      arith,
      c.self.invariant.closed_is,
      closed_le n (pieces_of n c.self.inside.past.arrivals),
      c.if-self.false,
    ))
