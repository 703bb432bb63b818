use Rattle.map_entry.specs.Setup.{AreRowsOk, setup_of}
use Rattle.map_entry.proofs.setup.check_rows.Given as goal

abbrev pub invariant-loop-output : goal.invariant-loop-output
invariant-loop-output l = AreRowsOk (setup_of l.device l.rows) l.output
