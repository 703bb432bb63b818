use Rattle.std.proofs.Common.{◌≡◌}
use Rattle.channel_json.specs.Devices.{outputs_of, rows_of}
use Rattle.channel_json.proofs.devices.split.Given as goal

abbrev pub invariant-loop-target : goal.invariant-loop-target
invariant-loop-target l = record {
  outputs : l.outputs.items ≡ outputs_of l.yielded;
  rows : l.rows.items ≡ rows_of l.yielded;
}
