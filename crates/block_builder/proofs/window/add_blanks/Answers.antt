use Rattle.std.proofs.Common.{arith}
use Rattle.block_builder.proofs.Windows.{has_range}
use Rattle.block_builder.proofs.window.add_blanks.Goals as goal

pub loop-tick-preserved : goal.loop-tick-preserved
loop-tick-preserved c = record {
  slots = c.add_blank.ensures.slots;
  window = λ first le lt m w. c.add_blank.ensures.window first
      (omega (arith, le, c.loop-tick.auto.tick)) (omega (arith, lt, c.loop-tick-test.true)) m
      (c.loop-tick.invariant.window first le lt m w);
  all = has_range c.args.from c.loop-tick.tick c.loop-tick.slots.items c.add_blank.new.slots.items
      c.loop-tick.invariant.all c.add_blank.ensures.others c.in_ok-add_blank.ensures.there;
}

pub returns-clause-all : goal.returns-clause-all
returns-clause-all c = λ tick le lt.
    c.loop-tick.invariant.all tick le (omega (arith, lt, c.loop-tick-test.false))
