use Rattle.input_cells.proofs.Copying.{sights_of}
use Rattle.input_cells.proofs.source.SeenSamples.new.Goals as goal

pub invariant_of-result : goal.invariant_of-result
invariant_of-result c =
    record { of_table = c.requires.pass; seen = sights_of _ _ _ _ c.requires.seen }
