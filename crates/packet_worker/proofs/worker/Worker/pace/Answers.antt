use Rattle.std.proofs.Common.{length, ap, arith, rules}
use Rattle.input_cells.specs.Faces.{AreOwnLooks, Grows}
use Rattle.input_cells.proofs.Growing.{own_grown}
use Rattle.input_cells.proofs.Starting.{as_inputs}
use Rattle.packet_worker.specs.declared.worker.Worker.TheInside.{Inside}
use Rattle.packet_worker.specs.Faces.{WorkerFace}
use Rattle.packet_worker.proofs.Telling.{knows_on}
use Rattle.packet_worker.proofs.worker.Worker.pace.Goals as goal

pub closed-requires-clause-input : goal.closed-requires-clause-input
closed-requires-clause-input c =
    omega (
      arith,
      c.inputs.ensures.value,
      ap (λ (z : Inside). length z.setup.device.inputs) c.self-inside.view_is,
      ap (λ (w : WorkerFace). length w.setup.device.inputs) c.self.view_is,
      as_inputs c.args.self.now.setup.device _ _ c.args.inputs.now
          c.requires.device,
    )

pub returns-clause-knows : goal.returns-clause-knows
returns-clause-knows c =
    let grows : Grows c.args.self.now.reads c.closed.new.self = search rules in
    knows_on c.args.self.now.setup.device c.args.self.now.reads c.closed.new.self grows

pub returns-clause-of : goal.returns-clause-of
returns-clause-of c =
    let grows : Grows c.args.self.now.reads c.closed.new.self = search rules in
    let own : AreOwnLooks c.closed.new.self =
    own_grown c.args.self.now.reads c.closed.new.self grows c.requires.own in search rules
