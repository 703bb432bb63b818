use Rattle.std.proofs.Common.{◌≡◌, ◌<◌, ℕ, false, length, take}
use Rattle.std.specs.Prelude.{◌||◌, slice_index_or}
use Rattle.packet_writer.specs.Flags.{row_names}
use Rattle.packet_writer.proofs.flags.mark_row.Given as goal

abbrev pub invariant-loop-cell : goal.invariant-loop-cell
invariant-loop-cell l = record {
  len : length l.flags ≡ length l.fn.flags;
  each : (input : ℕ) → input < length l.fn.flags
      → slice_index_or l.flags input false
      ≡ (slice_index_or l.fn.flags input false || row_names input (take l.cell-index l.row));
}
