use Rattle.std.proofs.Common.{◌≢◌, take}
use Rattle.std.specs.List.{AllPairs}
use Rattle.io_caps.proofs.checks.double_id.Given as goal

abbrev pub invariant-loop-at : goal.invariant-loop-at
invariant-loop-at g l = AllPairs (λ p q. g.P.Port.id p ≢ g.P.Port.id q) (take l.at l.ports)
