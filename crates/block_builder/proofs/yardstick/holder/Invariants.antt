use Rattle.std.proofs.Common.{◌≡◌, drop}
use Rattle.block_builder.specs.Blocks.{holder, pieces_of}
use Rattle.block_builder.proofs.yardstick.holder.Given as goal

abbrev pub invariant-loop-arrival : goal.invariant-loop-arrival
invariant-loop-arrival l =
    holder l.intake (pieces_of l.intake l.arrivals) l.tick l.place
    ≡ holder l.intake (pieces_of l.intake (drop l.arrival-index l.arrivals)) l.tick l.place
