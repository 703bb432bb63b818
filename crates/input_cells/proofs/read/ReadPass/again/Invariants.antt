use Rattle.std.specs.Prelude.{◌≡◌, map, take}
use Rattle.input_cells.specs.Faces.{unread}
use Rattle.input_cells.proofs.read.ReadPass.again.Given as goal

abbrev pub invariant-loop-input : goal.invariant-loop-input
invariant-loop-input l = record {
  same : l.self-inside.seats.items ≡ map unread l.inputs;
  made : l.seats.items ≡ map unread (take l.input l.inputs);
}
