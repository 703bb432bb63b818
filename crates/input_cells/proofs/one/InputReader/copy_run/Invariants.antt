use Rattle.input_cells.proofs.Copying.{IsCopied}
use Rattle.input_cells.proofs.one.InputReader.copy_run.Given as goal

abbrev pub invariant-loop-n : goal.invariant-loop-n
invariant-loop-n l = IsCopied l.fn.self l.self l.tick l.first l.part.channels l.fn.out l.out l.n
