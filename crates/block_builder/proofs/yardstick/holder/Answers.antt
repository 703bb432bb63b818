use Rattle.std.proofs.Common.{sym, ◌∙◌}
use Rattle.block_builder.specs.Seen.{piece_seen}
use Rattle.block_builder.proofs.Yardsticks.{ends_none, finds, passes_none, passes_piece, stops}
use Rattle.block_builder.proofs.yardstick.holder.Goals as goal
use Rattle.block_builder.proofs.yardstick.holder.Goals.{in-Some+else-covers+else-closes, in_default}

pub returns-then-covers-clause-value : goal.returns-then-covers-clause-value
returns-then-covers-clause-value c =
    sym (c.loop-arrival.invariant ∙ finds c.args.intake c.args.arrivals.now c.args.tick c.args.place
    c.loop-arrival.arrival-index c.arrival-item.result (piece_seen c.in-Some.seen)
    c.loop-arrival-test.true c.arrival-item.is c.in-Some.ensures.value
    (sym c.covers.ensures ∙ c.if-covers.true))

pub returns-then-closes-clause-value : goal.returns-then-closes-clause-value
returns-then-closes-clause-value c =
    sym (c.loop-arrival.invariant ∙ stops c.args.intake c.args.arrivals.now c.args.tick c.args.place
    c.loop-arrival.arrival-index c.arrival-item.result (piece_seen c.in-Some.seen)
    c.loop-arrival-test.true c.arrival-item.is c.in-Some.ensures.value
    (sym c.covers.ensures ∙ c.if-covers.false) (sym c.closes.ensures ∙ c.if-closes.true))

pub loop-arrival-preserved : goal.loop-arrival-preserved
loop-arrival-preserved c =
    elim c.match-see.branch [
      | in-Some+else-covers+else-closes w ↦
          c.loop-arrival.invariant ∙ passes_piece c.args.intake c.args.arrivals.now c.args.tick
          c.args.place c.loop-arrival.arrival-index c.arrival-item.result
          (piece_seen w.in-Some.seen)
          c.loop-arrival-test.true c.arrival-item.is w.in-Some.ensures.value
          (sym w.covers.ensures ∙ w.if-covers.false) (sym w.closes.ensures ∙ w.if-closes.false)
      | in_default w ↦
          c.loop-arrival.invariant ∙ passes_none c.args.intake c.args.arrivals.now c.args.tick
          c.args.place c.loop-arrival.arrival-index c.arrival-item.result
          c.loop-arrival-test.true c.arrival-item.is w.in_default.ensures.value
    ]

pub returns-clause-value : goal.returns-clause-value
returns-clause-value c = sym (c.loop-arrival.invariant
    ∙ ends_none c.args.intake c.args.arrivals.now c.args.tick c.args.place
    c.loop-arrival.arrival-index c.loop-arrival-test.false)
