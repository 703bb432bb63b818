use Rattle.std.proofs.Common.{◌≡◌}
use Rattle.capture_file.specs.Device.{outputs_of, rows_of}
use Rattle.capture_file.proofs.device.split.Given as goal

abbrev pub invariant-loop-target : goal.invariant-loop-target
invariant-loop-target l = record {
  outputs : l.outputs.items ≡ outputs_of l.yielded;
  rows : l.rows.items ≡ rows_of l.yielded;
}
