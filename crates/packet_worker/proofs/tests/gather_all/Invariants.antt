use Rattle.std.specs.Prelude.{◌≡◌, false}
use Rattle.session_laws.specs.Facts.Gathering.{GatherClosed}
use Rattle.packet_worker.specs.Faces.{IsWorkerOf}
use Rattle.packet_worker.specs.Jobs.{IsAllMade}
use Rattle.packet_worker.proofs.tests.gather_all.Given as goal

abbrev pub invariant-loop : goal.invariant-loop
invariant-loop l = record {
  work : IsWorkerOf l.table l.inputs l.worker;
  made : IsAllMade GatherClosed l.worker l.items;
  more : l.worker.pass.ended ≡ false;
}
