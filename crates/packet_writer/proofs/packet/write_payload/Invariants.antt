use Rattle.std.proofs.Common.{◌≡◌, ◌≤◌, ◌-◌, ◌*◌, length, take}
use Rattle.rtp_pcm.specs.Pcm.{payload_of}
use Rattle.packet_writer.specs.Heard.{TickBlocks, samples_from}
use Rattle.packet_writer.proofs.packet.write_payload.Given as goal

abbrev pub decreases-loop-frame : goal.decreases-loop-frame
decreases-loop-frame g l = l.rate.frames - l.frame

abbrev pub invariant-loop-frame : goal.invariant-loop-frame
invariant-loop-frame g l =
    let agrees = g.S.Samples.agrees in
    let rows = g.R.FrameRows.row_of l.rows in
    record {
      within : l.frame ≤ l.rate.frames;
      len : length l.out ≡ length l.fn.out;
      text : (b : TickBlocks) → agrees l.source b
          → take (l.frame * l.frame_len) l.out
          ≡ payload_of l.output.width (samples_from l.inputs b rows 0 l.frame);
      kept : (b : TickBlocks) → agrees l.source b → agrees l.fn.source b;
      stays : g.S.Samples.stays l.fn.source l.source;
    }
