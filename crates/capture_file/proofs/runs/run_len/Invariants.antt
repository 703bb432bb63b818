use Rattle.std.proofs.Common.{◌≡◌, ◌+◌, drop}
use Rattle.capture_file.specs.Runs.{run_len}
use Rattle.capture_file.proofs.runs.run_len.Given as goal

abbrev pub invariant-loop-one : goal.invariant-loop-one
invariant-loop-one g l = record {
  counted : l.len ≡ l.one-index;
  left : run_len g.T.Stands.at l.claims l.rest ≡ l.len + run_len g.T.Stands.at l.claims
      (drop l.one-index l.rest);
}
