use Rattle.std.proofs.Common.{◌≡◌, ◌++◌, take}
use Rattle.std.specs.List.{flat_map}
use Rattle.capture_file.specs.Requests.{change}
use Rattle.capture_file.proofs.writing.push_changes.Given as goal

abbrev pub invariant-loop-one : goal.invariant-loop-one
invariant-loop-one l =
    l.out.items ≡ l.fn.out.items ++ flat_map change.text (take l.one-index l.changes)
