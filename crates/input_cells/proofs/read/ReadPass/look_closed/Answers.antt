use Rattle.std.proofs.Common.{ℕ, ◌+◌, ◌<◌, suc, Bool, List, length, sym, subst, arith}
use Rattle.input_cells.specs.Faces.{IsReadOf, SeatFace}
use Rattle.input_cells.proofs.Growing.{grows_on, grows_still}
use Rattle.input_cells.proofs.Once.{Closed, LookedUpto, late_upto, looking_closed, looks_open}
use Rattle.input_cells.proofs.Once.{pace_closed, pace_late, pace_open, pace_seen}
use Rattle.input_cells.proofs.Once.{upto_hit, upto_none, upto_skip}
use Rattle.input_cells.proofs.read.ReadPass.look_closed.Goals as goal
use Rattle.input_cells.proofs.read.ReadPass.look_closed.Goals.{else-flags-input}
use Rattle.input_cells.proofs.read.ReadPass.look_closed.Goals.{then-flags-input+in-Ok}

pub loop-input-init : goal.loop-input-init
loop-input-init c = record {
  upto = upto_none (Closed c.args.tick) c.args.self.now c.args.flags.now
      (grows_still c.args.self.now);
  of_table = c.requires.pass;
}

pub loop-input-preserved : goal.loop-input-preserved
loop-input-preserved c =
    let n : ℕ = c.loop-input.input in
    let u = c.loop-input.invariant.upto in
    let below : suc n < length c.args.table.now =
    omega (
      arith,
      c.loop-input-test.true,
      c.loop-input.auto.input-end,
      c.inputs-input-end.ensures.value,
    ) in
    let within : n < length c.loop-input.flags =
    omega (arith, below, c.requires.flags, u.long) in
    elim c.if-flags-input.branch [
      | then-flags-input+in-Ok w ↦ record {
        upto = subst
            (λ (z : List SeatFace × List Bool). LookedUpto (Closed c.args.tick) c.args.self.now z.0
            c.args.flags.now z.1 (n + 1)) (λ k. (sym w.self-is k, sym w.flags-is k))
            (upto_hit (Closed c.args.tick) c.args.tick (looking_closed c.args.tick)
            c.args.self.now c.loop-input.self c.args.flags.now c.loop-input.flags n u
            w.look_behind.new.self w.in-Ok.there within w.if-flags-input.true w.in-Ok.ensures.ok
            w.look_behind.ensures.apart w.look_behind.ensures.grows);
        of_table = subst (IsReadOf c.args.table.now) (sym w.self-is) w.look_behind.ensures.pass;
      }
      | else-flags-input w ↦ record {
        upto = subst
            (λ (z : List SeatFace × List Bool). LookedUpto (Closed c.args.tick) c.args.self.now z.0
            c.args.flags.now z.1 (n + 1)) (λ k. (sym w.self-is k, sym w.flags-is k))
            (upto_skip (Closed c.args.tick) c.args.tick (looking_closed c.args.tick)
            c.args.self.now c.loop-input.self c.args.flags.now c.loop-input.flags n u
            w.if-flags-input.false);
        of_table = subst (IsReadOf c.args.table.now) (sym w.self-is)
            c.loop-input.invariant.of_table;
      }
    ]

pub returns-in-Err-clause-late : goal.returns-in-Err-clause-late
returns-in-Err-clause-late c =
    late_upto c.args.tick c.args.self.now c.loop-input.self c.look_behind.new.self c.args.flags.now
    c.loop-input.flags c.loop-input.input c.loop-input.invariant.upto
    (looks_open c.loop-input.self c.look_behind.new.self c.loop-input.input c.args.tick
    c.in-Err.open c.in-Err.ensures.err c.look_behind.ensures.apart)

pub returns-in-Err-clause-grows : goal.returns-in-Err-clause-grows
returns-in-Err-clause-grows c = grows_on c.args.self.now c.loop-input.self c.look_behind.new.self
    c.loop-input.invariant.upto.grows c.look_behind.ensures.grows

pub returns-then-closed-tick-clause-open : goal.returns-then-closed-tick-clause-open
returns-then-closed-tick-clause-open c =
    pace_open c.args.tick c.args.table.now c.args.self.now c.loop-input.self
    c.closed-closed.new.self c.args.flags.now c.loop-input.flags c.loop-input.input
    c.closed-closed.result c.loop-input.invariant.upto
    (omega (
      arith,
      c.loop-input-test.false,
      c.loop-input.auto.input-end,
      c.inputs-input-end.ensures.value,
      c.requires.flags,
    )) c.loop-input.invariant.of_table
    c.requires.flags c.closed-closed.ensures.seen c.closed-closed.ensures.grows
    c.if-closed-tick.true

pub returns-then-closed-tick-clause-late : goal.returns-then-closed-tick-clause-late
returns-then-closed-tick-clause-late c =
    pace_late c.args.tick c.args.table.now c.args.self.now c.loop-input.self
    c.closed-closed.new.self c.args.flags.now c.loop-input.flags c.loop-input.input
    c.closed-closed.result c.loop-input.invariant.upto
    (omega (
      arith,
      c.loop-input-test.false,
      c.loop-input.auto.input-end,
      c.inputs-input-end.ensures.value,
      c.requires.flags,
    )) c.loop-input.invariant.of_table
    c.requires.flags c.closed-closed.ensures.seen c.closed-closed.ensures.grows

pub returns-then-closed-tick-clause-grows : goal.returns-then-closed-tick-clause-grows
returns-then-closed-tick-clause-grows c = grows_on c.args.self.now c.loop-input.self
    c.closed-closed.new.self c.loop-input.invariant.upto.grows c.closed-closed.ensures.grows

pub returns-clause-sees : goal.returns-clause-sees
returns-clause-sees c =
    pace_closed c.args.tick c.args.table.now c.args.self.now c.loop-input.self
    c.closed-closed.new.self c.args.flags.now c.loop-input.flags c.loop-input.input
    c.closed-closed.result c.loop-input.invariant.upto
    (omega (
      arith,
      c.loop-input-test.false,
      c.loop-input.auto.input-end,
      c.inputs-input-end.ensures.value,
      c.requires.flags,
    )) c.loop-input.invariant.of_table
    c.requires.flags c.closed-closed.ensures.seen c.closed-closed.ensures.grows
    c.if-closed-tick.false

pub returns-clause-seen : goal.returns-clause-seen
returns-clause-seen c =
    pace_seen c.args.tick c.args.table.now c.args.self.now c.loop-input.self
    c.closed-closed.new.self c.args.flags.now c.loop-input.flags c.loop-input.input
    c.closed-closed.result c.loop-input.invariant.upto
    (omega (
      arith,
      c.loop-input-test.false,
      c.loop-input.auto.input-end,
      c.inputs-input-end.ensures.value,
      c.requires.flags,
    )) c.loop-input.invariant.of_table
    c.requires.flags c.closed-closed.ensures.seen c.closed-closed.ensures.grows c.requires.tick

pub returns-clause-late : goal.returns-clause-late
returns-clause-late c =
    pace_late c.args.tick c.args.table.now c.args.self.now c.loop-input.self
    c.closed-closed.new.self c.args.flags.now c.loop-input.flags c.loop-input.input
    c.closed-closed.result c.loop-input.invariant.upto
    (omega (
      arith,
      c.loop-input-test.false,
      c.loop-input.auto.input-end,
      c.inputs-input-end.ensures.value,
      c.requires.flags,
    )) c.loop-input.invariant.of_table
    c.requires.flags c.closed-closed.ensures.seen c.closed-closed.ensures.grows

pub returns-clause-grows : goal.returns-clause-grows
returns-clause-grows c = grows_on c.args.self.now c.loop-input.self c.closed-closed.new.self
    c.loop-input.invariant.upto.grows c.closed-closed.ensures.grows
