use Rattle.std.proofs.Common.{◌≡◌, Some, map, take}
use Rattle.std.specs.Prelude.{All, IfSome}
use Rattle.block_builder.specs.declared.arrival.Arrival.TheVariants.{Packet}
use Rattle.block_builder.specs.Blocks.{IsBlock, closed_of, intake_of}
use Rattle.block_builder.specs.Building.{blocks_upto}
use Rattle.block_builder.proofs.run.blocks_of_packets.Given as goal

abbrev pub invariant-loop-packet : goal.invariant-loop-packet
invariant-loop-packet l =
    record {
      intake : intake_of l.device l.input l.ticks ≡ Some l.builder.intake;
      arrivals : l.builder.arrivals ≡ map (λ p. Packet p.now) (take l.packet-index l.packets);
      made : l.made ≡ blocks_upto l.builder.intake l.builder.arrivals l.builder.given;
      shape : All (λ b. IfSome b (IsBlock l.builder.intake)) l.made;
      drained : closed_of l.builder.intake l.builder.arrivals ≡ l.builder.given;
    }
