use Rattle.std.proofs.Common.{◌++◌, ◌∷◌, [], ◌∙◌, sym, arith}
use Rattle.std.proofs.lemmas.List.FromFn.{map-range_with_len_more}
use Rattle.input_cells.specs.Shapes.{shape_of}
use Rattle.input_cells.proofs.lay.lay.Goals as goal

pub loop-input-preserved : goal.loop-input-preserved
loop-input-preserved c =
    let of_it = shape_of c.args.device.now c.args.from c.args.ticks in
    record {
      shapes = c.in_ok-push.ensures.shapes
          ∙ ((λ k. c.loop-input.invariant.shapes k ++ c.shape.ensures.value k ∷ [])
          ∙ sym (map-range_with_len_more of_it 0 c.loop-input.input c.loop-input.input
          (omega arith)));
      feeders = c.in_ok-push.ensures.feeders;
      reader = c.in_ok-push.ensures.reader;
    }
