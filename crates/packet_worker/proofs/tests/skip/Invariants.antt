use Rattle.packet_worker.specs.Faces.{IsWorkerOf}
use Rattle.packet_worker.proofs.tests.skip.Given as goal

abbrev pub invariant-loop : goal.invariant-loop
invariant-loop l = IsWorkerOf l.table l.inputs l.worker
