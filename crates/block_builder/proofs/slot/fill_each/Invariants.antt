use Rattle.block_builder.specs.Blocks.{piece_at}
use Rattle.block_builder.proofs.Filling.{IsFilled}
use Rattle.block_builder.proofs.slot.fill_each.Given as goal

abbrev pub invariant-loop-place : goal.invariant-loop-place
invariant-loop-place l =
    IsFilled l.intake (piece_at l.intake l.first l.payload) l.tick l.fn.samples l.fn.held l.samples
    l.held l.start l.limit l.place l.used
