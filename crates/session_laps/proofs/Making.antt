-- How a lap is made.
use Rattle.std.proofs.Common.{◌≡◌, ℕ, ◌+◌, ◌*◌, ◌^◌, ◌<◌, ◌≤◌, List, length, map, refl, sym, ap, ◌∙◌, subst, arith}
use Rattle.std.specs.Prelude.{All, Some, Option, IfSome}
use Rattle.std.specs.List.{range_with_len}
use Rattle.std.proofs.Math.Nat.{add-mul, mul-le-mul_left}
use Rattle.std.proofs.lemmas.List.{length-map}
use Rattle.std.proofs.lemmas.List.FromFn.{length-map-range_with_len}
use Rattle.io_caps.specs.declared.device.DeviceParts.{DeviceParts}
use Rattle.map_entry.specs.declared.claims.TheConstants.{CLAIMS_LIMIT}
use Rattle.map_entry.specs.Setup.{IsSetup, SetupParts}
use Rattle.claim_rule.specs.declared.plan.Plan.{Plan}
use Rattle.claim_word.specs.Faces.{IsPassOf, PublisherFace, TableFace}
use Rattle.input_cells.specs.Faces.{InputFace, SeatFace, face_of, unfed, unread}
use Rattle.input_cells.specs.Shapes.{IsTableOf, shape_of}
use Rattle.plain_book.specs.Carry.{carried}
use Rattle.live_book.specs.Books.{BookFace, RestFace, goes_over}
use Rattle.live_book.proofs.Starting.{base_below}
use Rattle.packet_worker.specs.Faces.{IsWorkerOf, WorkerFace}
use Rattle.packet_worker.proofs.Ending.{workers_of}
use Rattle.session_laps.specs.declared.lap.Lap.{Lap}
use Rattle.session_laps.specs.declared.make.Tables.{Tables}
use Rattle.session_laps.specs.Fresh.{IsFresh}
use Rattle.session_laps.specs.Laps.{AreBack, IsAt, IsBack}
use Rattle.session_laps.specs.Making.{AreMade, IsLapOf}
use Rattle.session_laps.specs.Sessions.{IsNewLap, IsSession, SessionFace, lap_ticks}
use Rattle.session_laps.proofs.Lists.{all_both, map_same_back}

-- ---- numbers

pub claims_within : (s : SetupParts) (before ticks claims : ℕ) → IsSetup s → before + ticks < 2 ^ 24
    → claims ≡ before * length s.device.outputs
    → claims + ticks * length s.device.outputs < CLAIMS_LIMIT
claims_within s before ticks claims setup few is =
    let n : ℕ = length s.device.outputs in
    let most : (before + ticks) * n ≤ (before + ticks) * 64 =
    mul-le-mul_left (before + ticks) setup.device.bounds.few_outputs in
    omega (arith, most, add-mul before ticks n, few, is)

pub ticks_within : (s : SetupParts) (before ticks : ℕ) → IsSetup s → before + ticks < 2 ^ 24
    → s.device.base + before + ticks < 2 ^ 64
ticks_within s before ticks setup few = omega (arith, base_below s setup, few)

pub table_long : (d : DeviceParts) (from ticks : ℕ) (table : List InputFace)
    → IsTableOf d from ticks table → length table ≡ length d.inputs + 1
table_long d from ticks table is =
    sym (length-map table (λ (t : InputFace). t.shape)) ∙ ap length is
    ∙ length-map-range_with_len (shape_of d from ticks) 0 (length d.inputs + 1)

-- ---- passes at first

reads_face : (inputs : List InputFace) → map face_of (map unread inputs) ≡ inputs
reads_face inputs = map_same_back unread face_of (λ t. refl) inputs

feeds_face : (inputs : List InputFace) → map face_of (map unfed inputs) ≡ inputs
feeds_face inputs = map_same_back unfed face_of (λ t. refl) inputs

fresh_of : (s : SetupParts) (table : TableFace) (inputs : List InputFace) (from ticks : ℕ)
    (w : WorkerFace) → table.plan.setup ≡ s → IsTableOf s.device from ticks inputs
    → IsFresh s inputs w → IsPassOf table w.pass → IsWorkerOf table inputs w
fresh_of s table inputs from ticks w setup is fresh of =
    workers_of table inputs w from ticks of (setup ∙ sym fresh.setup)
    (subst (λ (z : SetupParts). IsTableOf z.device from ticks inputs) (sym fresh.setup) is)
    (ap (map face_of) fresh.reads ∙ reads_face inputs) fresh.reads

-- ---- the lap

-- a lap with these parts
record HasParts (s : SetupParts) (r : RestFace) (before ticks workers : ℕ) (t : Tables) : Type 0
  where
    made : AreMade r before ticks workers t
    setup : r.setup ≡ s
    claims : r.claims ≡ before * length s.device.outputs

at_of : (s : SetupParts) (r : RestFace) (before ticks workers : ℕ) (t : Tables) (lap : Lap)
    → HasParts s r before ticks workers t → IsLapOf t r ticks lap → IsAt s before lap
at_of s r before ticks workers t lap has is =
    let plan = ap (λ (x : TableFace). x.plan) is.table_is ∙ has.made.plan in
    record {
      setup = ap (λ (p : Plan). p.setup) plan ∙ has.setup;
      first = ap (λ (p : Plan). p.from) plan ∙ has.claims;
      packets = ap (λ (p : Plan). p.packets) plan
          ∙ ap (λ (z : SetupParts). ticks * length z.device.outputs) has.setup
          ∙ ap (λ (n : ℕ). n * length s.device.outputs) (sym is.ticks_is);
      from = is.from_is ∙ has.claims;
      inputs =
          subst (λ (n : ℕ). IsTableOf s.device (s.device.base + before) n lap.inputs)
          (sym is.ticks_is)
          (subst (IsTableOf s.device (s.device.base + before) ticks) (sym is.inputs_is)
          (subst (λ (z : SetupParts). IsTableOf z.device (z.device.base + before) ticks t.inputs)
          has.setup has.made.inputs));
    }

-- the tables' passes are all back
made_back : (s : SetupParts) (r : RestFace) (before ticks workers : ℕ) (t : Tables)
    → HasParts s r before ticks workers t
    → AreBack t.table t.inputs t.publisher t.workers t.feeds t.clients t.room
made_back s r before ticks workers t has =
    let m = has.made in
    record {
      of_publisher = m.of_publisher;
      of_workers = all_both (IsFresh r.setup t.inputs) (λ (w : WorkerFace). IsPassOf t.table w.pass)
          (IsWorkerOf t.table t.inputs)
          (λ w fresh of. fresh_of r.setup t.table t.inputs (r.setup.device.base + before) ticks w
          (ap (λ (p : Plan). p.setup) m.plan) m.inputs fresh of) t.workers m.fresh m.of_workers;
      all_workers = m.many ∙ sym m.made;
      of_clients = m.clients;
      all_clients = m.all_clients ∙ sym m.made_clients;
      feeds_are = ap (map face_of) m.feeds ∙ feeds_face t.inputs;
      room_is = omega (arith, m.many, m.room);
    }

back_of : (r : RestFace) (ticks : ℕ) (t : Tables) (lap : Lap) → IsLapOf t r ticks lap
    → AreBack t.table t.inputs t.publisher t.workers t.feeds t.clients t.room → IsBack lap
back_of r ticks t lap is back =
    let publisher : lap.book.publisher ≡ t.publisher =
    ap (λ (b : BookFace). b.publisher) is.book_is in
    rw (is.table_is, is.inputs_is, publisher, is.workers_is, is.feeds_is, is.clients_is, is.room_is)
    back

pub new_lap : (s : SessionFace) (r : RestFace) (t : Tables) (ticks : ℕ) (lap : Lap)
    → s.rest ≡ Some r → r.setup ≡ s.setup → r.claims ≡ s.before * length s.setup.device.outputs
    → s.before ≤ s.ticks → ticks ≡ lap_ticks s
    → AreMade r s.before ticks s.workers t → IsLapOf t r ticks lap → IsNewLap s lap
new_lap s r t ticks lap there setup claims low ticks_is made is =
    let has : HasParts s.setup r s.before ticks s.workers t = record {
      made = made;
      setup = setup;
      claims = claims;
    } in
    let publisher : lap.book.publisher ≡ t.publisher =
    ap (λ (b : BookFace). b.publisher) is.book_is in
    record {
      at = at_of s.setup r s.before ticks s.workers t lap has is;
      ticks = is.ticks_is ∙ ticks_is;
      within = omega (arith, low, is.ticks_is, ticks_is);
      back = back_of r ticks t lap is (made_back s.setup r s.before ticks s.workers t has);
      many = ap length is.workers_is ∙ made.many;
      fresh =
          rw (is.inputs_is, is.workers_is)
          (subst (λ (z : SetupParts). All (IsFresh z t.inputs) t.workers) setup made.fresh);
      clients = ap length is.clients_is ∙ made.all_clients;
      unfed = is.feeds_is ∙ made.feeds ∙ ap (map unfed) (sym is.inputs_is);
      setup = ap (λ (b : BookFace). b.setup) is.book_is ∙ setup;
      book =
          subst (λ (o : Option RestFace). IfSome o (λ q. lap.book ≡ goes_over q lap.book.publisher))
          (sym there) (is.book_is ∙ ap (goes_over r) (sym publisher));
      base =
          subst (λ (o : Option RestFace). IfSome o
          (λ q. lap.book.publisher.view.entries ≡ carried q.setup q.journal q.claims)) (sym there)
          (ap (λ (p : PublisherFace). p.view.entries) publisher ∙ made.entries);
      room =
          subst (λ (z : SetupParts). lap.book.places.used ≤ 3 * length z.device.outputs) setup
          is.room_first;
    }
