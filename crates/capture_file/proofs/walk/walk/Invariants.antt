use Rattle.std.proofs.Common.{length, ◌≤◌}
use Rattle.exact_text.proofs.Exact.{IsBytes}
use Rattle.capture_file.specs.Walk.{Front}
use Rattle.capture_file.proofs.walk.walk.Given as goal

abbrev pub invariant-loop-found : goal.invariant-loop-found
invariant-loop-found g l = record {
  front : Front g.S.Judge.judges l.fn.start l.whole l.bytes l.state l.rest;
  bytes : IsBytes l.rest;
  within : length l.rest ≤ l.whole;
}

abbrev pub decreases-loop-found : goal.decreases-loop-found
decreases-loop-found g l = length l.rest
