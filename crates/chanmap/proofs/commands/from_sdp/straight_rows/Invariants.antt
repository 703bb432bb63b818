use Rattle.std.proofs.Common.{◌≡◌, ◌++◌, drop, map}
use Rattle.std.specs.List.{enumerate_from}
use Rattle.chanmap.specs.commands.FromSdp.{straight_row, straight_rows}
use Rattle.chanmap.proofs.commands.from_sdp.straight_rows.Given as goal

abbrev pub invariant-loop-stream : goal.invariant-loop-stream
invariant-loop-stream l = record {
  count : l.number ≡ l.stream-index;
  made : l.rows ++ map straight_row (enumerate_from l.number (drop l.stream-index l.streams))
      ≡ straight_rows l.streams;
}
