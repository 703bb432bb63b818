-- What is known at the end of both tables, in the words for sessions; and ticks of claims.
use Rattle.std.proofs.Common.{◌≡◌, ℕ, zero, suc, ◌+◌, ◌-◌, ◌*◌, ◌/◌, ◌<◌, ◌≤◌, List, [], ◌∷◌}
use Rattle.std.proofs.Common.{length, map, get_or, refl, sym, ap, ◌∙◌, subst, arith}
use Rattle.std.proofs.Common.{◌++◌}
use Rattle.std.proofs.lemmas.List.Elements.{All-from_recursion}
use Rattle.std.proofs.lemmas.List.Elements.{recursion_from_All}
use Rattle.std.specs.List.{AllByRecursion, AllZip}
use Rattle.std.specs.Prelude.{All}
use Rattle.claim_rule.specs.declared.plan.Plan.{Plan}
use Rattle.claim_rule.specs.Claims.{tick_of}
use Rattle.claim_word.specs.Endings.{draws_in}
use Rattle.claim_word.specs.Faces.{IsPassOf, PassFace, TableFace}
use Rattle.input_cells.specs.Agreement.{Agrees}
use Rattle.input_rule.specs.declared.view.Shape.{Shape}
use Rattle.input_cells.proofs.Growing.{unread_own}
use Rattle.input_cells.specs.Faces.{AreOwnLooks, unread}
use Rattle.input_cells.specs.Faces.{InputFace, IsReadOf, SeatFace, heard_of}
use Rattle.input_cells.specs.Faces.{looks_of}
use Rattle.input_cells.specs.Looking.{HasTickEach}
use Rattle.input_cells.specs.Shapes.{IsTableOf, shape_of}
use Rattle.input_cells.proofs.Agreeing.{range_at, shape_in}
use Rattle.input_cells.proofs.Starting.{as_inputs, has_its_ticks}
use Rattle.session_laws.specs.Facts.{Made, draws_of}
use Rattle.session_laws.proofs.FoundRows.{tick_from, tick_to}
use Rattle.io_caps.specs.declared.device.DeviceParts.{DeviceParts}
use Rattle.packet_writer.specs.Packet.{Blocks}
use Rattle.packet_worker.specs.Faces.{IsWorkerOf, WorkerFace, first_of, ticks_of}
use Rattle.packet_worker.specs.Told.{Tells}
use Rattle.input_rule.specs.declared.view.HeardSample.{HeardSample}
use Rattle.input_rule.specs.declared.view.Look.{Look}

-- ---- ticks

some_output : (ticks n x : ℕ) → x < ticks * n → 0 < n
some_output ticks zero x lt = absurd (let none : ticks * 0 ≡ 0 = omega arith in omega arith)
some_output ticks (suc n) x lt = omega arith

pub claim_ticks : (plan : Plan) (inputs : List InputFace) (first ticks number : ℕ)
    → IsTableOf plan.setup.device first ticks inputs → plan.setup.device.base ≤ first
    → plan.from ≡ (first - plan.setup.device.base) * length plan.setup.device.outputs
    → plan.packets ≡ ticks * length plan.setup.device.outputs → number < plan.packets
    → HasTickEach inputs (tick_of plan number)
claim_ticks plan inputs first ticks number of_it low from packets early =
    let n : ℕ = length plan.setup.device.outputs in let base : ℕ = plan.setup.device.base in
    let before : ℕ = first - base in
    let few : number < ticks * n = omega (arith, early, packets) in
    let some = some_output ticks n number few in
    subst (λ (z : ℕ). HasTickEach inputs (base + (z + number) / n)) (sym from)
    (has_its_ticks plan.setup.device first ticks inputs of_it (base + (before * n + number) / n)
    (let t = tick_from n before number some in omega arith)
    (let t = tick_to n before number ticks some few in omega arith))

-- ---- tables

-- how the tables lie tells the first tick and how many there are
table_numbers : (d : DeviceParts) (first ticks : ℕ) (table : List InputFace)
    → IsTableOf d first ticks table → (first_of table ≡ first) × (ticks_of table ≡ ticks)
table_numbers d first ticks [] of_it =
    absurd (let n = as_inputs d first ticks [] of_it in omega arith)
table_numbers d first ticks (t ∷ ts) of_it =
    let shape : t.shape ≡ shape_of d first ticks 0 =
    shape_in (t ∷ ts) 0 t
    ∙ (ap (λ (l : List Shape). get_or l 0 t.shape) of_it
    ∙ range_at (shape_of d first ticks) 0 (length d.inputs + 1) 0 t.shape (omega arith)) in
    (ap (λ (s : Shape). s.from) shape, ap (λ (s : Shape). s.ticks) shape)

pub workers_of : (table : TableFace) (inputs : List InputFace) (w : WorkerFace) (first ticks : ℕ)
    → IsPassOf table w.pass → table.plan.setup ≡ w.setup
    → IsTableOf w.setup.device first ticks inputs → IsReadOf inputs w.reads
    → w.reads ≡ map unread inputs → IsWorkerOf table inputs w
workers_of table inputs w first ticks pass setup of_it reads fresh =
    let n = table_numbers w.setup.device first ticks inputs of_it in record {
      pass = pass;
      setup = setup;
      reader = record {
        device = subst (λ (z : ℕ × ℕ). IsTableOf w.setup.device z.0 z.1 inputs)
            (λ k. (sym n.0 k, sym n.1 k)) of_it;
        reads = reads;
        own = subst AreOwnLooks (sym fresh) (unread_own inputs);
      };
    }

-- ---- all workers

pub draws_joined : (passes : List PassFace) (made : List Made)
    → AllZip (λ p m. m.draws ≡ p.view.draws) passes made
    → draws_of made ≡ draws_in passes
draws_joined [] [] h = refl
draws_joined [] (m ∷ ms) h = absurd h
draws_joined (p ∷ ps) [] h = absurd h
draws_joined (p ∷ ps) (m ∷ ms) h = λ k. h.0 k ++ draws_joined ps ms h.1 k

each_agrees : (d : DeviceParts) (blocks : Blocks) (readers : List (List SeatFace))
    (made : List Made) → AllZip Tells readers made
    → AllByRecursion (λ r. Agrees d (looks_of r) (heard_of r) blocks) readers
    → AllByRecursion (λ m. Agrees d m.looks m.heard blocks) made
each_agrees d blocks [] [] h a = tt
each_agrees d blocks [] (m ∷ ms) h a = absurd h
each_agrees d blocks (r ∷ rs) [] h a = absurd h
each_agrees d blocks (r ∷ rs) (m ∷ ms) h a = (
  subst (λ (z : List Look × List HeardSample). Agrees d z.0 z.1 blocks)
      (λ k. (sym h.0.0 k, sym h.0.1 k)) a.0,
  each_agrees d blocks rs ms h.1 a.1,
)

pub agree_all : (d : DeviceParts) (blocks : Blocks) (readers : List (List SeatFace))
    (made : List Made) → AllZip Tells readers made
    → All (λ r. Agrees d (looks_of r) (heard_of r) blocks) readers
    → All (λ m. Agrees d m.looks m.heard blocks) made
agree_all d blocks readers made h a =
    All-from_recursion (λ (m : Made). Agrees d m.looks m.heard blocks) made
    (each_agrees d blocks readers made h
    (recursion_from_All (λ (r : List SeatFace). Agrees d (looks_of r) (heard_of r) blocks)
    readers a))
