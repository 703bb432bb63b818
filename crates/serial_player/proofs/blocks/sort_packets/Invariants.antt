use Rattle.std.proofs.Common.{take, map}
use Rattle.serial_player.specs.Arrivals.{HavePackets}
use Rattle.serial_player.proofs.blocks.sort_packets.Given as goal

abbrev pub invariant-loop-item : goal.invariant-loop-item
invariant-loop-item l =
    HavePackets (λ list. map (λ p. p.now) list.items) l.inputs
    (take l.item-index l.items) l.made.items
