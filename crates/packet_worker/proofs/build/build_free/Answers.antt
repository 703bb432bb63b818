use Rattle.std.proofs.Common.{◌≡◌, ℕ, List, length, sym, subst}
use Rattle.claim_word.specs.Claims.{number_of}
use Rattle.map_entry.specs.Setup.{SetupParts}
use Rattle.input_cells.specs.Faces.{SeatFace}
use Rattle.input_cells.specs.Looking.{SeesFree}
use Rattle.packet_writer.specs.Flags.{is_named, names_by}
use Rattle.packet_writer.specs.Heard.{AreRows}
use Rattle.packet_writer.specs.Packet.{FitOutput, claim_rows, output_of_claim}
use Rattle.packet_worker.specs.Bench.{IsPacketBy, made_in}
use Rattle.packet_worker.specs.Faces.{worker_of}
use Rattle.packet_worker.specs.Rows.{RowUpto, row_in}
use Rattle.packet_worker.proofs.Building.{named_here, rows_fit, rows_here, setup_here}
use Rattle.packet_worker.proofs.Seeing.{free_named}
use Rattle.packet_worker.proofs.build.build_free.Goals as goal
use Rattle.packet_worker.proofs.build.build_free.Goals.{After-tick}

-- the pieces that were read
abbrev pieces : After-tick → List RowUpto
pieces c = c.read_rows.new.self.rows.pieces

-- the setup of the pass is the worker's
setup_is : (c : After-tick) → c.args.pass.now.view.plan.setup ≡ c.args.setup.now
setup_is c = setup_here c.args.table.now c.args.inputs.now
    (worker_of c.args.setup.now c.args.pass.now c.args.bench.now.reads) c.requires.worker

-- they have the rows of the claim's packet
rows_are : (c : After-tick)
    → AreRows c.args.setup.now.device.rate.frames (row_in (pieces c))
    (claim_rows c.args.setup.now c.args.pass.now.view.entries c.args.claim.now.k)
rows_are c =
    let v = c.args.pass.now.view in
    rows_here c.args.setup.now v.plan (number_of v.plan c.args.claim.now) v.entries
    c.args.claim.now (pieces c) (setup_is c) c.requires.last.claim c.read_rows.ensures.rows

-- and name what the claim's packet names
names_are : (c : After-tick) (input : ℕ)
    → is_named c.args.setup.now.device.rate.frames (row_in (pieces c)) input
    ≡ names_by c.args.setup.now c.args.pass.now.view.entries c.args.claim.now.k input
names_are c input =
    named_here c.args.setup.now c.args.pass.now.view.entries c.args.claim.now.k
    (row_in (pieces c)) (rows_are c) input

pub gather_free-requires-clause-rows : goal.gather_free-requires-clause-rows
gather_free-requires-clause-rows c =
    let at = (goal.at.gather_free-requires-clause-rows c).After-tick in
    let v = at.args.pass.now.view in
    subst
    (λ (k : ℕ). FitOutput at.args.setup.now.device (output_of_claim at.args.setup.now k)
    (row_in (pieces at))) (sym at.k.ensures)
    (rows_fit at.args.setup.now v.plan (number_of v.plan at.args.claim.now) v.entries
    at.args.claim.now (pieces at) (setup_is at) at.requires.last.claim
    at.read_rows.ensures.rows)

pub returns-clause-sees : goal.returns-clause-sees
returns-clause-sees c =
    let at = (goal.at.returns-clause-sees c).After-tick in
    let s : SetupParts = at.args.setup.now in
    free_named (length s.device.inputs) at.args.claim.now.tick
    (is_named s.device.rate.frames (row_in (pieces at)))
    (names_by s at.args.pass.now.view.entries at.args.claim.now.k) at.args.bench.now.reads
    c.gather_free.new.self.reads c.gather_free.new.self.found.items (λ i lt. names_are at i)
    (subst
    (λ (z : ℕ × List SeatFace). SeesFree (length s.device.inputs) z.0
    (is_named s.device.rate.frames (row_in (pieces at))) z.1 c.gather_free.new.self.reads
    c.gather_free.new.self.found.items)
    (λ k. (at.tick.ensures k, at.read_rows.ensures.reads k)) c.gather_free.ensures.sees)

pub returns-clause-packet : goal.returns-clause-packet
returns-clause-packet c blocks agrees =
    let at = (goal.at.returns-clause-packet c).After-tick in
    let s : SetupParts = at.args.setup.now in
    (subst (λ (k : ℕ). IsPacketBy s (row_in (pieces at)) k c.gather_free.new.self.reads
    c.gather_free.new.self.found.items (made_in c.gather_free.new.self)) at.k.ensures
    c.gather_free.ensures.packet)
    at.args.pass.now.view.entries blocks (rows_are at) agrees
