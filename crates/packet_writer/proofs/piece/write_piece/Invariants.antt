use Rattle.std.proofs.Common.{◌≡◌, ◌<◌, ◌+◌, ◌-◌, ◌*◌, ℕ, length, get_or}
use Rattle.io_caps.specs.Rate.{bytes_per_sample}
use Rattle.map_entry.specs.declared.cell.Cell.{Cell}
use Rattle.rtp_pcm.specs.Pcm.{bytes_of_sample}
use Rattle.packet_writer.specs.Heard.{TickBlocks, heard}
use Rattle.packet_writer.specs.Slots.{slot}
use Rattle.packet_writer.proofs.piece.write_piece.Given as goal

abbrev pub invariant-loop-cell : goal.invariant-loop-cell
invariant-loop-cell g l =
    let agrees = g.S.Samples.agrees in
    let row = l.piece.row.now in
    record {
      len : length l.out ≡ length l.fn.out;
      long : length l.samples ≡ l.piece.upto - l.piece.frame;
      put : (b : TickBlocks) → agrees l.source b → (f c : ℕ) (d : Cell)
          → f < l.piece.upto - l.piece.frame → c < l.cell
          → slot (bytes_per_sample l.width) (f * length row + c) l.out
          ≡ bytes_of_sample l.width (heard l.inputs b (l.piece.frame + f) (get_or row c d));
      kept : (b : TickBlocks) → agrees l.source b → agrees l.fn.source b;
      stays : g.S.Samples.stays l.fn.source l.source;
    }
