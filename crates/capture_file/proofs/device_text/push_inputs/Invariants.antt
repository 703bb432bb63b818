use Rattle.std.proofs.Common.{◌≡◌, ◌++◌, take}
use Rattle.std.specs.List.{flat_map}
use Rattle.capture_file.specs.Device.{input}
use Rattle.capture_file.proofs.device_text.push_inputs.Given as goal

abbrev pub invariant-loop-one : goal.invariant-loop-one
invariant-loop-one l =
    l.out.items ≡ l.fn.out.items ++ flat_map input.text (take l.one-index l.inputs)
