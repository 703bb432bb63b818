use Rattle.std.proofs.Common.{◌≡◌, ◌∙◌, Bool, List, length, refl, sym, ap, subst, Ok, Err}
use Rattle.claim_word.specs.Claims.{IsLast}
use Rattle.input_cells.specs.Looking.{SeesClosed}
use Rattle.packet_writer.specs.Flags.{names_by}
use Rattle.packet_worker.specs.Bench.{IsPacketOf}
use Rattle.packet_worker.specs.Faces.{IsWorkerOf, WorkerFace, worker_of}
use Rattle.packet_worker.specs.Gathering.{EndsClosed, GivesClosed, KeepsClaim}
use Rattle.packet_worker.specs.declared.gathered.Gathered.{Gathered}
use Rattle.packet_worker.proofs.Building.{gives_closed, keeps, setup_here}
use Rattle.packet_worker.proofs.worker.Worker.gather_closed.Goals as goal
use Rattle.packet_worker.proofs.worker.Worker.gather_closed.Goals.{After-build_closed}

-- the worker as its parts
abbrev face_of : After-build_closed → WorkerFace
face_of c = worker_of c.self.inside.setup c.self.inside.pass c.self.inside.bench.reads

of_it : (c : After-build_closed) → IsWorkerOf c.args.table.now c.args.inputs.now (face_of c)
of_it c =
    subst (IsWorkerOf c.args.table.now c.args.inputs.now) (sym c.self.view_is) c.requires.worker

last_it : (c : After-build_closed) → IsLast c.self.inside.pass.view c.args.claim.now
last_it c =
    subst (λ (w : WorkerFace). IsLast w.pass.view c.args.claim.now) (sym c.self.view_is)
    c.requires.last

on_it : (c : After-build_closed)
    → KeepsClaim c.args.table.now c.args.inputs.now c.args.claim.now (face_of c)
    (worker_of c.self.inside.setup c.build_closed.new.pass c.build_closed.new.bench.reads)
on_it c =
    keeps c.args.table.now c.args.inputs.now c.self.inside.setup c.self.inside.pass
    c.build_closed.new.pass c.self.inside.bench.reads c.build_closed.new.bench.reads
    c.args.claim.now (of_it c) (last_it c) c.build_closed.ensures.pass c.build_closed.ensures.grows

-- the packet that was built, as it is lent
given : (c : After-build_closed) (g : Gathered) → g.found.now ≡ c.build_closed.new.bench.found.items
    → IsPacketOf c.self.inside.setup c.self.inside.pass.view.entries c.args.claim.now.k
    c.build_closed.new.bench.reads c.build_closed.new.bench.found.items g.packet.now
    → SeesClosed (length c.self.inside.setup.device.inputs) c.args.claim.now.tick
    (names_by c.self.inside.setup c.self.inside.pass.view.entries c.args.claim.now.k)
    c.self.inside.bench.reads c.build_closed.new.bench.reads c.build_closed.new.bench.found.items
    → GivesClosed c.args.claim.now (face_of c)
    (worker_of c.self.inside.setup c.build_closed.new.pass c.build_closed.new.bench.reads) g
given c g found packet sees =
    gives_closed c.self.inside.setup c.self.inside.pass c.build_closed.new.pass
    c.self.inside.bench.reads c.build_closed.new.bench.reads c.args.claim.now g
    (setup_here c.args.table.now c.args.inputs.now (face_of c) (of_it c)) (last_it c)
    c.build_closed.ensures.pass
    (ap (λ (l : List Bool). length l) found ∙ c.build_closed.ensures.bench.found)
    (subst
    (λ (l : List Bool). IsPacketOf c.self.inside.setup c.self.inside.pass.view.entries
    c.args.claim.now.k c.build_closed.new.bench.reads l g.packet.now) (sym found) packet)
    (subst
    (λ (l : List Bool). SeesClosed (length c.self.inside.setup.device.inputs) c.args.claim.now.tick
    (names_by c.self.inside.setup c.self.inside.pass.view.entries c.args.claim.now.k)
    c.self.inside.bench.reads c.build_closed.new.bench.reads l) (sym found) sees)

pub returns-in-Err : goal.returns-in-Err
returns-in-Err c =
    let at = (goal.at.returns-in-Err c).After-build_closed in (
      (
        refl,
        (λ _. tt),
        subst
            (λ (w : WorkerFace). EndsClosed c.args.table.now c.args.inputs.now c.args.claim.now
            (Err c.in-Err.open) w
            (worker_of c.self.inside.setup c.build_closed.new.pass c.build_closed.new.bench.reads))
            c.self.view_is (record {
              on = on_it at;
              late = at.build_closed.ensures.late;
              gives = c.in-Err.ensures.open;
            }),
      ),
      record { after = tt },
    )

pub returns-in-Ok : goal.returns-in-Ok
returns-in-Ok c =
    let at = (goal.at.returns-in-Ok c).After-build_closed in (
      (
        refl,
        (λ _. tt),
        subst
            (λ (w : WorkerFace). EndsClosed c.args.table.now c.args.inputs.now c.args.claim.now
            (Ok c.gathered.result) w
            (worker_of c.self.inside.setup c.build_closed.new.pass c.build_closed.new.bench.reads))
            c.self.view_is
            (record {
              on = on_it at;
              late = at.build_closed.ensures.late;
              gives = given at c.gathered.result c.gathered.ensures.found
                  (λ blocks agrees.
                  c.gathered.ensures.packet ∙ c.in-Ok.ensures.packet blocks agrees)
                  c.in-Ok.ensures.sees;
            }),
      ),
      record { after = tt },
    )
