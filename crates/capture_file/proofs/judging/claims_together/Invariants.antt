use Rattle.std.proofs.Common.{◌≡◌, ◌≤◌, take}
use Rattle.std.specs.List.{sum_by}
use Rattle.capture_file.specs.Items.{claims_of}
use Rattle.capture_file.proofs.judging.claims_together.Given as goal

abbrev pub invariant-loop-item : goal.invariant-loop-item
invariant-loop-item l = record {
  so_far : l.together ≡ sum_by claims_of (take l.item-index l.items);
  few : l.together ≤ l.most;
}
