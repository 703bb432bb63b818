use Rattle.std.proofs.Common.{◌≡◌, ◌++◌, ◌∷◌, length, take}
use Rattle.std.specs.List.{flat_map}
use Rattle.capture_file.specs.Replies.{pending}
use Rattle.capture_file.proofs.replies.push_pending.Given as goal

abbrev pub invariant-loop-item : goal.invariant-loop-item
invariant-loop-item l =
    l.out.items ≡ l.fn.out.items ++ length l.items ∷ flat_map (pending l.format).text
    (take l.item-index l.items)
