use Rattle.std.proofs.Common.{◌≡◌, ◌++◌, ◌∷◌, length, take}
use Rattle.std.specs.List.{flat_map}
use Rattle.capture_file.specs.Requests.{output_change}
use Rattle.capture_file.proofs.writing.push_action.Given as goal

abbrev pub invariant-loop-one : goal.invariant-loop-one
invariant-loop-one l =
    l.out.items ≡ l.fn.out.items ++ length l.value ∷ flat_map output_change.text
    (take l.one-index l.value)
