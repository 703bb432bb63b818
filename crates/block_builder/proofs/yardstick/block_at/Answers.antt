use Rattle.std.proofs.Common.{◌+◌, List, Bool, ℤ, sym, ◌∙◌}
use Rattle.block_builder.specs.Blocks.{held_at, pieces_of}
use Rattle.block_builder.proofs.Filling.{subst2}
use Rattle.block_builder.proofs.Yardsticks.{IsGathered, gather_none, gather_some}
use Rattle.block_builder.proofs.yardstick.block_at.Goals as goal
use Rattle.block_builder.proofs.yardstick.block_at.Goals.{in-Some+in_ok-append-in-Some}
use Rattle.block_builder.proofs.yardstick.block_at.Goals.{in-None+in_ok-silence-in-None+in_ok-append-in-None}

pub loop-frame-preserved : goal.loop-frame-preserved
loop-frame-preserved c =
    let n = c.args.intake in
    let held = held_at n (pieces_of n c.args.arrivals.now) c.args.tick in
    let frame = c.loop-frame.frame in
    elim c.match-branch-2.branch [
      | in-Some+in_ok-append-in-Some w ↦
          subst2 (λ (s : List ℤ) (b : Bool). IsGathered n held (frame + 1) s b)
          (sym (w.samples-is ∙ w.in_ok-append-in-Some.ensures.ok)) (sym w.is_held-is)
          (gather_some n held frame c.loop-frame.samples w.in-Some.held c.loop-frame.is_held
          c.loop-frame-test.true (sym c.in_ok-held.ensures ∙ w.in-Some.is) c.loop-frame.invariant)
      | in-None+in_ok-silence-in-None+in_ok-append-in-None w ↦
          subst2 (λ (s : List ℤ) (b : Bool). IsGathered n held (frame + 1) s b)
          (sym (w.samples-is ∙ w.in_ok-append-in-None.ensures.ok)) (sym w.is_held-is)
          (gather_none n held frame c.loop-frame.samples w.in_ok-silence-in-None.field-0
          c.loop-frame.is_held c.loop-frame-test.true (sym c.in_ok-held.ensures ∙ w.in-None.is)
          w.in_ok-silence-in-None.ensures c.loop-frame.invariant)
    ]
