use Rattle.std.proofs.Common.{◌≡◌, ◌≤◌, List, length}
use Rattle.std.specs.List.{flat_map, range_with_len}
use Rattle.chan_io.specs.Outgoing.{waiting_bytes}
use Rattle.map_entry.specs.declared.entry.Entry.{Entry}
use Rattle.packet_writer.specs.Packet.{Blocks}
use Rattle.serial_player.specs.Made.{AreBy, all_made_by}
use Rattle.chan_io.specs.Streams.{SendsOn}
use Rattle.serial_player.specs.Written.{record_behind}
use Rattle.serial_player.proofs.writing.put_claims.Given as goal

abbrev pub invariant-loop-k : goal.invariant-loop-k
invariant-loop-k g l =
    let taken = g.K.Sink.taken in
    record {
      found : length l.found ≡ length l.claims.setup.now.device.inputs;
      size : length l.out.buffer.items ≡ length l.fn.out.buffer.items;
      later : g.K.Sink.faults l.fn.sink ≤ g.K.Sink.faults l.sink;
      sent : (entries : List Entry) (blocks : Blocks) → AreBy l.claims entries blocks
          → SendsOn (taken l.fn.sink) (waiting_bytes l.fn.out) (taken l.sink)
          (waiting_bytes l.out)
          (flat_map (record_behind l.between (all_made_by l.claims entries blocks))
          (range_with_len 0 l.k));
    }
