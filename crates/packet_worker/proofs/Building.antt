-- What a worker's call that gathers tells and leaves.
use Rattle.std.proofs.Common.{◌≡◌, ℕ, ◌<◌, List, [], length}
use Rattle.std.proofs.Common.{Option, refl, sym, ap, ◌∙◌, subst, arith}
use Rattle.std.specs.Prelude.{Err, IfErr, Ok, OnOk, Result}
use Rattle.std.specs.Option.{unwrap_or}
use Rattle.claim_rule.specs.declared.plan.Plan.{Plan}
use Rattle.claim_rule.specs.declared.view.View.{View}
use Rattle.claim_word.specs.declared.worker.Claim.{Claim}
use Rattle.claim_rule.specs.Claims.{IsSound}
use Rattle.claim_word.specs.Claims.{IsClaim, IsLast, number_of, pieced_on, read_on}
use Rattle.claim_word.specs.Faces.{PassFace, TableFace}
use Rattle.input_cells.specs.Faces.{AreOwnLooks}
use Rattle.input_cells.specs.Faces.{AreNumbered, Grows, InputFace, IsReadOf, SeatFace}
use Rattle.input_cells.specs.Looking.{SeesClosed, SeesFree}
use Rattle.input_cells.proofs.Growing.{own_grown, stays_of_table}
use Rattle.session_laws.specs.Steps.{GathersClosed, GathersFree, SawBlock}
use Rattle.session_laws.specs.Steps.{FlagClosed, FlagFree}
use Rattle.map_entry.specs.declared.cell.Cell.{Cell}
use Rattle.map_entry.specs.declared.entry.Entry.{Entry}
use Rattle.map_entry.specs.Entry.{selected}
use Rattle.map_entry.specs.declared.claims.TheConstants.{CLAIMS_LIMIT}
use Rattle.map_entry.specs.Row.{channels_of_output}
use Rattle.map_entry.specs.Setup.{SetupParts}
use Rattle.map_entry.specs.Tick.{frame_key}
use Rattle.map_entry.proofs.Channels.{passed_there}
use Rattle.packet_writer.specs.Flags.{is_named, names_by}
use Rattle.packet_writer.specs.Heard.{AreRows, RowsByFrame}
use Rattle.packet_writer.specs.Packet.{FitOutput, RowFits, claim_rows, flag_of, output_of_claim}
use Rattle.packet_writer.specs.Packet.{tick_of_claim}
use Rattle.packet_writer.proofs.PacketLaws.{is_named-same}
use Rattle.packet_worker.specs.declared.gathered.Gathered.{Gathered}
use Rattle.packet_worker.specs.Bench.{IsPacketOf}
use Rattle.packet_worker.specs.Faces.{IsWorkerOf, WorkerFace, worker_of}
use Rattle.packet_worker.specs.Gathering.{GivesClosed, GivesFree, IsReadFor, KeepsClaim, item_of}
use Rattle.packet_worker.specs.Rows.{AreRowsOf, RowUpto, row_in}
use Rattle.packet_worker.specs.Told.{draw_of_claim}
use Rattle.packet_worker.proofs.Owning.{seen_here}
use Rattle.packet_worker.proofs.Telling.{flag_closed, flag_free, knows_on}
use Rattle.input_cells.specs.Faces.{looks_of, heard_of}

-- ---- the claim and its row

pub output_here : (s : SetupParts) (plan : Plan) (number : ℕ) (found : List Entry) (c : Claim)
    → plan.setup ≡ s → IsClaim plan number found c → output_of_claim s c.k ≡ c.output
output_here s plan number found c setup is =
    subst (λ (z : SetupParts). output_of_claim z c.k ≡ c.output) setup
    (ap (output_of_claim plan.setup) is.k ∙ sym is.output)

pub tick_here : (s : SetupParts) (plan : Plan) (number : ℕ) (found : List Entry) (c : Claim)
    → plan.setup ≡ s → IsClaim plan number found c → tick_of_claim s c.k ≡ c.tick
tick_here s plan number found c setup is =
    subst (λ (z : SetupParts). tick_of_claim z c.k ≡ c.tick) setup
    (ap (tick_of_claim plan.setup) is.k ∙ sym is.tick)

-- the rows that were read are the claim's
pub rows_here : (s : SetupParts) (plan : Plan) (number : ℕ) (entries : List Entry) (c : Claim)
    (pieces : List RowUpto) → plan.setup ≡ s → IsClaim plan number entries c
    → AreRowsOf s.device entries c s.device.rate.frames pieces
    → AreRows s.device.rate.frames (row_in pieces) (claim_rows s entries c.k)
rows_here s plan number entries c pieces setup is rows frame lt =
    sym ((λ k. unwrap_or (selected entries (output_here s plan number entries c setup is k)
    (frame_key (tick_here s plan number entries c setup is k) frame)) [])
    ∙ ap (λ (o : Option (List Cell)). unwrap_or o []) (rows.selects frame lt))

-- and fit its output
pub rows_fit : (s : SetupParts) (plan : Plan) (number : ℕ) (entries : List Entry) (c : Claim)
    (pieces : List RowUpto) → plan.setup ≡ s → IsClaim plan number entries c
    → AreRowsOf s.device entries c s.device.rate.frames pieces
    → FitOutput s.device (output_of_claim s c.k) (row_in pieces)
rows_fit s plan number entries c pieces setup is rows frame lt =
    let fit = rows.fits frame lt in
    subst
    (λ (o : ℕ). RowFits s.device.inputs (channels_of_output s.device o) (row_in pieces frame))
    (sym (output_here s plan number entries c setup is))
    (fit.long, passed_there s.device c.output (row_in pieces frame) fit.passes)

-- the number of the claim is one of a session
pub claim_few : (plan : Plan) (number : ℕ) (found : List Entry) (c : Claim) → IsSound plan
    → IsClaim plan number found c → c.k < CLAIMS_LIMIT
claim_few plan number found c sound is =
    let k = is.k in let early = is.early in let few = sound.claims in omega (arith, k, early, few)

-- the inputs that it names
pub named_here : (s : SetupParts) (entries : List Entry) (k : ℕ) (rows : RowsByFrame)
    → AreRows s.device.rate.frames rows (claim_rows s entries k) → (input : ℕ)
    → is_named s.device.rate.frames rows input ≡ names_by s entries k input
named_here s entries k rows same input =
    is_named-same s.device.rate.frames rows (claim_rows s entries k) same input

-- the setup of a pass at the worker's table
pub setup_here : (t : TableFace) (inputs : List InputFace) (w : WorkerFace)
    → IsWorkerOf t inputs w → w.pass.view.plan.setup ≡ w.setup
setup_here t inputs w of = ap (λ (p : Plan). p.setup) of.pass.plan_is ∙ of.setup

-- what follows where a call gathered, and where it did not
pub on_ok : {E : Type 0} (P Q : Type 0) (r : Result (Unit {0}) E) → OnOk r P → (P → Q) → OnOk r Q
on_ok P Q (Ok x) h f = f h
on_ok P Q (Err e) h f = tt

pub if_err : {A E : Type 0} (P Q : E → Type 0) (r : Result A E) → IfErr r P
    → ((e : E) → P e → Q e) → IfErr r Q
if_err P Q (Ok x) h f = tt
if_err P Q (Err e) h f = f e h

-- ---- what stays

module _ (t : TableFace) (inputs : List InputFace) (s : SetupParts) (p q : PassFace)
    (before after : List SeatFace) (c : Claim)
  where
    pub keeps : IsWorkerOf t inputs (worker_of s p before) → IsLast p.view c
        → IsReadFor p q c → Grows before after
        → KeepsClaim t inputs c (worker_of s p before) (worker_of s q after)
    keeps of last read grows =
        let view : q.view ≡ pieced_on (read_on p.view read.heads) read.words =
        ap (λ (z : PassFace). z.view) read.pass in
        record {
          of = record {
            pass = record {
              id_is = read.id ∙ of.pass.id_is;
              plan_is = read.plan ∙ of.pass.plan_is;
            };
            setup = of.setup;
            reader = record {
              device = of.reader.device;
              reads = stays_of_table inputs before after grows of.reader.reads;
              own = own_grown before after grows of.reader.own;
            };
          };
          last = subst (λ (v : View). IsLast v c) (sym view)
              (record { draw = last.draw; claim = last.claim });
          setup = refl;
          pass = read;
          reads = grows;
          knows = knows_on s.device before after grows;
        }

-- ---- closed form

module _ (s : SetupParts) (p q : PassFace) (before after : List SeatFace) (c : Claim) (g : Gathered)
    (setup : p.view.plan.setup ≡ s) (last : IsLast p.view c)
    (read : IsReadFor p q c)
    (long : length g.found.now ≡ length s.device.inputs)
    (packet : IsPacketOf s p.view.entries c.k after g.found.now g.packet.now)
  where
    view_is : q.view ≡ pieced_on (read_on p.view read.heads) read.words
    view_is = ap (λ (z : PassFace). z.view) read.pass

    tick_is : tick_of_claim s c.k ≡ c.tick
    tick_is =
        tick_here s p.view.plan (number_of p.view.plan c) p.view.entries c setup last.claim

    pub gives_closed : SeesClosed (length s.device.inputs) c.tick (names_by s p.view.entries c.k)
        before after g.found.now → GivesClosed c (worker_of s p before) (worker_of s q after) g
    gives_closed sees = record {
      gathers = subst
          (λ (v : View). GathersClosed s v.plan.from (draw_of_claim v c) (looks_of after)
          (heard_of after) (item_of c g)) (sym view_is)
          (record {
            number = last.claim.k;
            long = long;
            named = λ i lt on.
                subst
                (λ (tick : ℕ). FlagClosed (looks_of after) i tick (flag_of g.found.now i))
                (sym tick_is)
                (flag_closed before after i c.tick (flag_of g.found.now i) (sees.looked i lt on));
            other = λ i lt off. (sees.other i lt off).0;
            packet = packet;
          });
      sees = sees;
    }

    pub gives_free : (table : List InputFace) → AreNumbered table → IsReadOf table before
        → AreOwnLooks before
        → SeesFree (length s.device.inputs) c.tick (names_by s p.view.entries c.k) before after
        g.found.now → GivesFree c (worker_of s p before) (worker_of s q after) g
    gives_free table numbered is own sees = record {
      gathers = subst
          (λ (v : View). GathersFree s v.plan.from (draw_of_claim v c) (looks_of before)
          (looks_of after) (heard_of after) (item_of c g)) (sym view_is)
          (record {
            number = last.claim.k;
            long = long;
            named = λ i lt on.
                subst (λ (tick : ℕ). FlagFree (looks_of after) i tick (flag_of g.found.now i))
                (sym tick_is)
                (flag_free before after i c.tick (flag_of g.found.now i)
                (sees.looked i lt on).looked);
            other = λ i lt off. (sees.other i lt off).0;
            again = λ i lt on had.
                (sees.looked i lt on).looked.again
                (seen_here table before i c.tick numbered is own
                (subst (λ (tick : ℕ). SawBlock (looks_of before) i tick) tick_is had));
            packet = packet;
          });
      sees = sees;
    }
