use Rattle.block_builder.specs.Blocks.{held_at, pieces_of}
use Rattle.block_builder.proofs.Yardsticks.{IsGathered}
use Rattle.block_builder.proofs.yardstick.block_at.Given as goal

abbrev pub invariant-loop-frame : goal.invariant-loop-frame
invariant-loop-frame l = IsGathered l.intake
    (held_at l.intake (pieces_of l.intake l.arrivals) l.tick) l.frame l.samples l.is_held
