use Rattle.std.proofs.Common.{◌≡◌, List, map}
use Rattle.std.specs.List.{range_with_len}
use Rattle.map_entry.specs.declared.entry.Entry.{Entry}
use Rattle.packet_writer.specs.Packet.{Blocks}
use Rattle.serial_player.specs.Made.{AreBy, all_made_by}
use Rattle.serial_player.proofs.claims.AllClaims.make.Given as goal

abbrev pub invariant-loop-k : goal.invariant-loop-k
invariant-loop-k l =
    (entries : List Entry) (blocks : Blocks) → AreBy l.self entries blocks
    → l.made ≡ map (all_made_by l.self entries blocks) (range_with_len 0 l.k)
