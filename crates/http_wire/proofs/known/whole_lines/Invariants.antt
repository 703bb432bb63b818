use Rattle.std.proofs.Common.{◌≡◌, ℕ, List, ◌++◌, ◌==◌, false, length}
use Rattle.std.specs.List.{list_any}
use Rattle.http_wire.proofs.known.whole_lines.Given as goal

abbrev pub invariant-loop-last : goal.invariant-loop-last
invariant-loop-last l = (rest : List ℕ) × (l.bytes ≡ l.lines ++ rest) × (list_any (λ b. b == 10) rest ≡ false)

abbrev pub decreases-loop-last : goal.decreases-loop-last
decreases-loop-last l = length l.lines
