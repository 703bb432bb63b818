use Rattle.std.proofs.Common.{◌≡◌, sym, subst}
use Rattle.packet_worker.specs.Faces.{IsWorkerOf, worker_of}
use Rattle.packet_worker.proofs.tests.Tables.worker.Goals as goal

pub returns-clause-of : goal.returns-clause-of
returns-clause-of c =
    let t = c.args.self.now in
    subst (IsWorkerOf t.table t.inputs) (sym c.in_ok-new.ensures)
    (c.workers_are_of_tables.ensures t.table t.inputs
    (worker_of t.setup c.in_ok-pass.pass c.in_ok-reads.reads) t.span.first t.span.ticks
    c.in_ok-pass.ensures.made.of t.plan t.device c.in_ok-reads.ensures.pass c.in_ok-reads.ensures.unread)
