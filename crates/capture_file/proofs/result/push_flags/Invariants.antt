use Rattle.std.proofs.Common.{◌≡◌, ◌++◌, take}
use Rattle.std.specs.List.{flat_map}
use Rattle.capture_file.specs.Device.{flag}
use Rattle.capture_file.proofs.result.push_flags.Given as goal

abbrev pub invariant-loop-flag : goal.invariant-loop-flag
invariant-loop-flag l =
    l.out.items ≡ l.fn.out.items ++ flat_map flag.text (take l.flag-index l.flags)
