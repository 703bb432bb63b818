use Rattle.std.proofs.Common.{◌≡◌, map, take}
use Rattle.input_cells.specs.Faces.{face_of}
use Rattle.input_cells.proofs.tests.feeders.Given as goal

abbrev pub invariant-loop-input : goal.invariant-loop-input
invariant-loop-input l = record {
  faces : map face_of l.made ≡ take l.input l.fn.table;
  of : l.feeds.table ≡ l.fn.table;
}
