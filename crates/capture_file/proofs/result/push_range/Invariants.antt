use Rattle.std.proofs.Common.{◌≡◌, ◌≤◌, ◌-◌, ◌++◌}
use Rattle.capture_file.specs.Parts.{range_bytes, IsHeld}
use Rattle.capture_file.proofs.result.push_range.Given as goal

abbrev pub invariant-loop-number : goal.invariant-loop-number
invariant-loop-number l = record {
  held : IsHeld l.number l.all.between.calls.now l.all.between.replies.now l.all.claims.now
      l.left.between.calls.now l.left.between.replies.now l.left.claims.now;
  above : l.from ≤ l.number;
  written : l.out.items ≡ l.fn.out.items ++ range_bytes l.format l.from
      (l.number - l.from) l.all.between.calls.now l.all.between.replies.now l.all.claims.now;
}
