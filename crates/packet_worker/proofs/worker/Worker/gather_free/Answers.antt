use Rattle.std.proofs.Common.{◌≡◌, ◌∙◌, Bool, List, length, refl, sym, ap, subst}
use Rattle.claim_word.specs.Claims.{IsLast}
use Rattle.input_cells.specs.Looking.{SeesFree}
use Rattle.packet_writer.specs.Flags.{names_by}
use Rattle.packet_worker.specs.Bench.{IsPacketOf}
use Rattle.packet_worker.specs.Faces.{IsWorkerOf, WorkerFace, worker_of}
use Rattle.packet_worker.specs.Gathering.{EndsFree, GivesFree, KeepsClaim}
use Rattle.packet_worker.specs.declared.gathered.Gathered.{Gathered}
use Rattle.packet_worker.proofs.Building.{gives_free, keeps, setup_here}
use Rattle.input_cells.proofs.Starting.{numbered_table}
use Rattle.packet_worker.proofs.worker.Worker.gather_free.Goals as goal
use Rattle.packet_worker.proofs.worker.Worker.gather_free.Goals.{After-build_free}

-- the worker as its parts
abbrev face_of : After-build_free → WorkerFace
face_of c = worker_of c.self.inside.setup c.self.inside.pass c.self.inside.bench.reads

of_it : (c : After-build_free) → IsWorkerOf c.args.table.now c.args.inputs.now (face_of c)
of_it c =
    subst (IsWorkerOf c.args.table.now c.args.inputs.now) (sym c.self.view_is) c.requires.worker

last_it : (c : After-build_free) → IsLast c.self.inside.pass.view c.args.claim.now
last_it c =
    subst (λ (w : WorkerFace). IsLast w.pass.view c.args.claim.now) (sym c.self.view_is)
    c.requires.last

on_it : (c : After-build_free)
    → KeepsClaim c.args.table.now c.args.inputs.now c.args.claim.now (face_of c)
    (worker_of c.self.inside.setup c.build_free.new.pass c.build_free.new.bench.reads)
on_it c =
    keeps c.args.table.now c.args.inputs.now c.self.inside.setup c.self.inside.pass
    c.build_free.new.pass c.self.inside.bench.reads c.build_free.new.bench.reads c.args.claim.now
    (of_it c) (last_it c) c.build_free.ensures.pass c.build_free.ensures.grows

-- the packet that was built, as it is lent
given : (c : After-build_free) (g : Gathered) → g.found.now ≡ c.build_free.new.bench.found.items
    → IsPacketOf c.self.inside.setup c.self.inside.pass.view.entries c.args.claim.now.k
    c.build_free.new.bench.reads c.build_free.new.bench.found.items g.packet.now
    → SeesFree (length c.self.inside.setup.device.inputs) c.args.claim.now.tick
    (names_by c.self.inside.setup c.self.inside.pass.view.entries c.args.claim.now.k)
    c.self.inside.bench.reads c.build_free.new.bench.reads c.build_free.new.bench.found.items
    → GivesFree c.args.claim.now (face_of c)
    (worker_of c.self.inside.setup c.build_free.new.pass c.build_free.new.bench.reads) g
given c g found packet sees =
    gives_free c.self.inside.setup c.self.inside.pass c.build_free.new.pass
    c.self.inside.bench.reads c.build_free.new.bench.reads c.args.claim.now g
    (setup_here c.args.table.now c.args.inputs.now (face_of c) (of_it c)) (last_it c)
    c.build_free.ensures.pass
    (ap (λ (l : List Bool). length l) found ∙ c.build_free.ensures.bench.found)
    (subst
    (λ (l : List Bool). IsPacketOf c.self.inside.setup c.self.inside.pass.view.entries
    c.args.claim.now.k c.build_free.new.bench.reads l g.packet.now) (sym found) packet)
    c.args.inputs.now
    (numbered_table c.self.inside.setup.device _ _
    c.args.inputs.now (of_it c).reader.device) (of_it c).reader.reads (of_it c).reader.own
    (subst
    (λ (l : List Bool). SeesFree (length c.self.inside.setup.device.inputs) c.args.claim.now.tick
    (names_by c.self.inside.setup c.self.inside.pass.view.entries c.args.claim.now.k)
    c.self.inside.bench.reads c.build_free.new.bench.reads l) (sym found) sees)

pub returns : goal.returns
returns c =
    let at = (goal.at.returns c).After-build_free in (
      (
        refl,
        (λ _. tt),
        subst
            (λ (w : WorkerFace). EndsFree c.args.table.now c.args.inputs.now c.args.claim.now
            c.gathered.result w
            (worker_of c.self.inside.setup c.build_free.new.pass c.build_free.new.bench.reads))
            c.self.view_is
            (record {
              on = on_it at;
              gives = given at c.gathered.result c.gathered.ensures.found
                  (λ blocks agrees.
                  c.gathered.ensures.packet ∙ c.build_free.ensures.packet blocks agrees)
                  c.build_free.ensures.sees;
            }),
      ),
      record { after = tt },
    )
