use Rattle.std.proofs.Common.{◌<◌}
use Rattle.std.specs.List.{AllWithin, AllAdjacentBelow}
use Rattle.map_entry.specs.Action.{IsOutputChange}
use Rattle.map_entry.proofs.action.are_in_order.Given as goal

abbrev pub invariant-loop-at : goal.invariant-loop-at
invariant-loop-at l = record {
  outputs : AllAdjacentBelow (λ x y. x.output < y.output) l.changes l.at;
  changes : AllWithin IsOutputChange l.changes 0 l.at;
}
