use Rattle.input_cells.specs.Faces.{IsReadOf}
use Rattle.input_cells.proofs.Once.{Free, LookedUpto}
use Rattle.input_cells.proofs.read.ReadPass.look_free.Given as goal

abbrev pub invariant-loop-input : goal.invariant-loop-input
invariant-loop-input l = record {
  upto : LookedUpto (Free l.tick) l.fn.self l.self l.fn.flags l.flags l.input;
  of_table : IsReadOf l.table l.self;
}
