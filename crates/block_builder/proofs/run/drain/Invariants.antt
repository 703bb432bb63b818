use Rattle.std.proofs.Common.{◌≡◌, ◌-◌}
use Rattle.std.specs.Prelude.{All, IfSome}
use Rattle.block_builder.specs.Blocks.{IsBlock, closed_of}
use Rattle.block_builder.specs.Building.{blocks_upto}
use Rattle.block_builder.proofs.run.drain.Given as goal

abbrev pub invariant-loop-block : goal.invariant-loop-block
invariant-loop-block l =
    record {
      intake : l.builder.intake ≡ l.fn.builder.intake;
      arrivals : l.builder.arrivals ≡ l.fn.builder.arrivals;
      made : l.made ≡ blocks_upto l.builder.intake l.builder.arrivals l.builder.given;
      shape : All (λ b. IfSome b (IsBlock l.fn.builder.intake)) l.made;
    }

abbrev pub decreases-loop-block : goal.decreases-loop-block
decreases-loop-block l = closed_of l.builder.intake l.builder.arrivals - l.builder.given
