use Rattle.std.proofs.Common.{◌-◌, ◌≤◌}
use Rattle.packet_worker.proofs.Reading.{IsReadUpto}
use Rattle.packet_worker.proofs.rows.read_rows.Given as goal

abbrev pub invariant-loop-frame : goal.invariant-loop-frame
invariant-loop-frame l = record {
  within : l.frame ≤ l.frames;
  read : IsReadUpto l.fn.pass l.pass l.claim l.frame l.rows;
}

abbrev pub decreases-loop-frame : goal.decreases-loop-frame
decreases-loop-frame l = l.frames - l.frame
