use Rattle.std.proofs.Common.{◌≡◌, ◌≤◌, ◌<◌, ◌-◌, ℕ, false, length}
use Rattle.std.specs.Prelude.{slice_index_or}
use Rattle.packet_writer.specs.Flags.{is_named}
use Rattle.packet_writer.proofs.flags.mark_named.Given as goal

abbrev pub decreases-loop-frame : goal.decreases-loop-frame
decreases-loop-frame g l = l.frames - l.frame

abbrev pub invariant-loop-frame : goal.invariant-loop-frame
invariant-loop-frame g l = record {
  within : l.frame ≤ l.frames;
  len : length l.flags ≡ length l.fn.flags;
  each : (input : ℕ) → input < length l.fn.flags
      → slice_index_or l.flags input false ≡ is_named l.frame (g.R.FrameRows.row_of l.rows) input;
}
