use Rattle.std.proofs.Common.{◌≡◌, ◌≤◌, ◌*◌, length, take}
use Rattle.std.specs.List.{sum_by}
use Rattle.io_caps.specs.declared.limits.TheConstants.{MOST_CHANNELS}
use Rattle.io_caps.proofs.checks.channels_together.Given as goal

abbrev pub invariant-loop-input : goal.invariant-loop-input
invariant-loop-input l = record {
  sum : l.together ≡ sum_by (λ i. length i.labels) (take l.input-index l.inputs);
  few : l.together ≤ MOST_CHANNELS * l.input-index;
}
