use Rattle.std.proofs.Common.{◌+◌, set, sym, refl, subst, ℤ}
use Rattle.input_cells.proofs.Copying.{IsCopied, copied_more}
use Rattle.input_cells.proofs.Seats.{whole}
use Rattle.input_cells.proofs.one.InputReader.copy.Goals as goal

pub loop-n-preserved : goal.loop-n-preserved
loop-n-preserved c =
    subst (λ (z : ℤ). IsCopied c.args.self.now c.listen.new.self c.args.tick c.args.first
    c.args.step c.args.out.now (set c.loop-n.out c.loop-n.n z) (c.loop-n.n + 1))
    (sym (whole _ c.listen.type_inv))
    (copied_more _ _ _ _ _ _ _ _ _ _ _ c.loop-n.invariant c.listen.ensures.heard refl
    c.loop-n-test.true)
