use Rattle.std.proofs.Common.{[], map}
use Rattle.serial_player.specs.Arrivals.{HavePackets}
use Rattle.serial_player.proofs.blocks.no_packets.Given as goal

abbrev pub invariant-loop : goal.invariant-loop
invariant-loop l = HavePackets (λ list. map (λ p. p.now) list.items) l.counter [] l.made.items
