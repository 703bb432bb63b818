use Rattle.std.proofs.Common.{◌≡◌, length, take}
use Rattle.std.specs.List.{flat_map}
use Rattle.capture_file.specs.Device.{flag}
use Rattle.capture_file.proofs.parts.write_flags.Given as goal

abbrev pub invariant-loop-at : goal.invariant-loop-at
invariant-loop-at l = record {
  long : length l.out ≡ length l.found;
  written : take l.at l.out ≡ flat_map flag.text (take l.at l.found);
}
