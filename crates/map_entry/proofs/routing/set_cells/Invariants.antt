use Rattle.std.proofs.Common.{◌≡◌, length, take}
use Rattle.map_entry.specs.Action.{with_changes}
use Rattle.map_entry.proofs.routing.set_cells.Given as goal

abbrev pub invariant-loop-change : goal.invariant-loop-change
invariant-loop-change l = record {
  made : l.row ≡ with_changes (take l.change-index l.changes) l.fn.row;
  long : length l.row ≡ length l.fn.row;
}
