use Rattle.std.proofs.Common.{ℕ, ◌+◌, ◌<◌, suc, Bool, List, length, sym, subst, arith}
use Rattle.input_rule.specs.declared.view.View.{View}
use Rattle.input_rule.specs.Views.{looked}
use Rattle.input_cells.specs.Faces.{HasInput, IsReadOf, SeatFace}
use Rattle.input_cells.proofs.Growing.{grows_still}
use Rattle.input_cells.proofs.Once.{Free, LookedUpto, free_once, looking_free, step_apart}
use Rattle.input_cells.proofs.Once.{upto_hit, upto_none, upto_skip}
use Rattle.input_cells.proofs.read.ReadPass.look_free.Goals as goal
use Rattle.input_cells.proofs.read.ReadPass.look_free.Goals.{then-flags-input, else-flags-input}

pub loop-input-init : goal.loop-input-init
loop-input-init c = record {
  upto = upto_none (Free c.args.tick) c.args.self.now c.args.flags.now
      (grows_still c.args.self.now);
  of_table = c.requires.pass;
}

pub loop-input-preserved : goal.loop-input-preserved
loop-input-preserved c =
    let n : ℕ = c.loop-input.input in
    let u = c.loop-input.invariant.upto in
    let below : suc n < length c.args.table.now =
    omega (
      arith,
      c.loop-input-test.true,
      c.loop-input.auto.input-end,
      c.inputs-input-end.ensures.value,
    ) in
    let inside : HasInput c.args.table.now n = below in
    let within : n < length c.loop-input.flags =
    omega (arith, below, c.requires.flags, u.long) in
    elim c.if-flags-input.branch [
      | then-flags-input w ↦ record {
        upto = subst
            (λ (z : List SeatFace × List Bool). LookedUpto (Free c.args.tick) c.args.self.now z.0
            c.args.flags.now z.1 (n + 1)) (λ k. (sym w.self-is k, sym w.flags-is k))
            (upto_hit (Free c.args.tick) c.args.tick (looking_free c.args.tick) c.args.self.now
            c.loop-input.self c.args.flags.now c.loop-input.flags n u w.look.new.self w.look.result
            within w.if-flags-input.true
            (free_once c.args.table.now c.loop-input.self w.look.new.self n c.args.tick
            w.look.result c.inputs-input-end.ensures.numbered c.loop-input.invariant.of_table inside
            w.look.ensures.seen w.look.ensures.saw w.look.ensures.again)
            (λ i apart. step_apart (λ (v : View). looked v c.args.tick w.look.result)
            c.loop-input.self w.look.new.self n i w.look.ensures.seen apart) w.look.ensures.grows);
        of_table = subst (IsReadOf c.args.table.now) (sym w.self-is) w.look.ensures.pass;
      }
      | else-flags-input w ↦ record {
        upto = subst
            (λ (z : List SeatFace × List Bool). LookedUpto (Free c.args.tick) c.args.self.now z.0
            c.args.flags.now z.1 (n + 1)) (λ k. (sym w.self-is k, sym w.flags-is k))
            (upto_skip (Free c.args.tick) c.args.tick (looking_free c.args.tick) c.args.self.now
            c.loop-input.self c.args.flags.now c.loop-input.flags n u w.if-flags-input.false);
        of_table = subst (IsReadOf c.args.table.now) (sym w.self-is)
            c.loop-input.invariant.of_table;
      }
    ]
