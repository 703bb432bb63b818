use Rattle.std.specs.Prelude.{◌≡◌, Some, map}
use Rattle.std.specs.List.{range_with_len}
use Rattle.input_cells.specs.Faces.{InputFace, unfed, unread}
use Rattle.input_cells.specs.Shapes.{shape_of}
use Rattle.input_cells.proofs.lay.lay.Given as goal

abbrev pub invariant-loop-input : goal.invariant-loop-input
invariant-loop-input l = record {
  shapes : map (λ (t : InputFace). t.shape) l.laid.inputs.items ≡ map
      (shape_of l.device l.from l.ticks) (range_with_len 0 l.input);
  feeders : l.laid.feeders.items ≡ map (λ (t : InputFace). Some (unfed t)) l.laid.inputs.items;
  reader : l.laid.reader ≡ map unread l.laid.inputs.items;
}
