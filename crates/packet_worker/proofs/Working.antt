-- A worker's job goes on from call to call.
use Rattle.std.proofs.Common.{◌≡◌, ℕ, ◌<◌, List, [], ◌∷◌, ◌++◌, refl, sym, ap, ◌∙◌, subst, arith}
use Rattle.std.proofs.Common.{suc, true, false, replicate, length, None, inl, inr}
use Rattle.std.proofs.lemmas.List.{get_or-replicate, get_or_past, length-replicate}
use Rattle.std.proofs.lemmas.List.Elements.{All-contains}
use Rattle.std.proofs.lemmas.Bool.{cases_lt, false≢true, le-ltb, lt-ltb}
use Rattle.std.specs.Prelude.{All, cond, filter, is_some, min, nat_lt}
use Rattle.std.specs.List.{AllZip}
use Rattle.io_caps.specs.declared.device.DeviceParts.{DeviceParts}
use Rattle.claim_rule.specs.declared.plan.Plan.{Plan}
use Rattle.claim_rule.specs.declared.view.Draw.{Draw}
use Rattle.claim_rule.specs.declared.view.View.{View}
use Rattle.claim_rule.specs.Views.{drew}
use Rattle.claim_word.specs.declared.worker.Claim.{Claim}
use Rattle.claim_word.specs.Claims.{IsDrawn, IsLast, IsLate, number_of, pieced_on, read_on}
use Rattle.claim_word.specs.Faces.{PassFace, TableFace}
use Rattle.input_cells.specs.Faces.{InputFace, SeatFace}
use Rattle.session_laws.specs.Facts.{Gathering, IsItem, IsWorked, Made}
use Rattle.session_laws.specs.Facts.{is_packet}
use Rattle.session_laws.specs.Facts.Gathering.{GatherClosed, GatherFree}
use Rattle.session_laws.specs.Steps.{SawBlock, IsSeenBefore}
use Rattle.session_laws.proofs.Gathered.{closed_item, free_item, worked_more, worked_over}
use Rattle.session_laws.proofs.Gathered.{worked_still}
use Rattle.map_entry.specs.Setup.{SetupParts}
use Rattle.packet_writer.specs.Flags.{Sights}
use Rattle.packet_writer.specs.Packet.{Blocks, flag_of, tick_of_claim}
use Rattle.packet_writer.proofs.ClaimLaws.{closed_are_free, packet_by-same}
use Rattle.book_words.specs.declared.history.ClaimItem.{ClaimItem}
use Rattle.packet_worker.specs.declared.gathered.Gathered.{Gathered}
use Rattle.packet_worker.specs.Faces.{WorkerFace}
use Rattle.packet_worker.specs.Gathering.{GivesClosed, GivesFree, KeepsClaim, KnowsOn, item_of}
use Rattle.packet_worker.specs.Jobs.{IsAllMade, IsDue, IsUnseen, unsent_item}
use Rattle.packet_worker.specs.Told.{draw_of_claim}
use Rattle.packet_worker.specs.Told.{made_by}
use Rattle.input_cells.specs.Agreement.{Agrees}
use Rattle.input_cells.specs.Faces.{looks_of, heard_of}
use Rattle.input_rule.specs.declared.view.HeardSample.{HeardSample}
use Rattle.input_rule.specs.declared.view.Look.{Look}

-- what was made, of these draws, by what a pass has seen
abbrev made_of : List Draw → List SeatFace → List ClaimItem → Made
made_of draws reads items =
    record { draws = draws; looks = looks_of reads; heard = heard_of reads; items = items }

-- worked by the same setup and plan
same_work : (g : Gathering) (s t : SetupParts) (p q : Plan) (w : Made) → t ≡ s → q ≡ p
    → IsWorked s g p.from p.packets w → IsWorked t g q.from q.packets w
same_work g s t p q w e f h =
    subst (λ (z : SetupParts × Plan). IsWorked z.0 g z.1.from z.1.packets w)
    (λ k. (sym e k, sym f k)) h

pub begun : (g : Gathering) (w : WorkerFace) → w.pass.view.draws ≡ [] → IsAllMade g w []
begun g w none =
    subst
    (λ (ds : List Draw). IsWorked w.setup g w.pass.view.plan.from w.pass.view.plan.packets
    (made_of ds w.reads [])) (sym none) (λ blocks a. tt)

-- a draw after others
draws_more : (v w : View) (number : ℕ) → w ≡ drew v number w.entries
    → w.draws
    ≡ v.draws ++ record { number = number; found = w.entries } ∷ []
draws_more v w number is =
    ap (λ (z : View). z.draws) is

pub drawn : (g : Gathering) (w x : WorkerFace) (c : Claim) (items : List ClaimItem)
    → IsAllMade g w items → x ≡ record w { pass = x.pass }
    → IsDrawn w.pass x.pass (number_of w.pass.view.plan c) → IsLast x.pass.view c
    → IsDue g x c items
drawn g w x c items all kept d last =
    let plan : x.pass.view.plan ≡ w.pass.view.plan = ap (λ (z : View). z.plan) d.view in
    let setup : x.setup ≡ w.setup = ap (λ (z : WorkerFace). z.setup) kept in
    let reads : x.reads ≡ w.reads = ap (λ (z : WorkerFace). z.reads) kept in
    record {
      draws = w.pass.view.draws;
      drawn = draws_more w.pass.view x.pass.view (number_of w.pass.view.plan c) d.view
          ∙ ap
          (λ (p : Plan). w.pass.view.draws
          ++ record { number = number_of p c; found = x.pass.view.entries } ∷ []) (sym plan);
      worked = subst
          (λ (r : List SeatFace). IsWorked x.setup g x.pass.view.plan.from x.pass.view.plan.packets
          (made_of w.pass.view.draws r items)) (sym reads)
          (same_work g w.setup x.setup w.pass.view.plan x.pass.view.plan (made_by w items) setup plan
          all);
    }

pub over : (g : Gathering) (w x : WorkerFace) (items : List ClaimItem) → IsAllMade g w items
    → x ≡ record w { pass = x.pass } → IsLate w.pass x.pass → IsAllMade g x items
over g w x items all kept late =
    let d = late.drawn in
    let plan : x.pass.view.plan ≡ w.pass.view.plan = ap (λ (z : View). z.plan) d.view in
    let setup : x.setup ≡ w.setup = ap (λ (z : WorkerFace). z.setup) kept in
    let reads : x.reads ≡ w.reads = ap (λ (z : WorkerFace). z.reads) kept in
    let one : Draw = record { number = late.number; found = x.pass.view.entries } in
    let told = draws_more w.pass.view x.pass.view late.number d.view in
    subst
    (λ (z : List Draw × List SeatFace). IsWorked x.setup g x.pass.view.plan.from
    x.pass.view.plan.packets (made_of z.0 z.1 items)) (λ k. (sym told k, sym reads k))
    (same_work g w.setup x.setup w.pass.view.plan x.pass.view.plan
    (made_of (w.pass.view.draws ++ one ∷ []) w.reads items) setup plan
    (worked_over w.setup g w.pass.view.plan.from w.pass.view.plan.packets (made_by w items) one all
    late.late))

-- a call that gathers leaves the draws
pub due_on : (g : Gathering) (t : TableFace) (inputs : List InputFace) (c : Claim)
    (w x : WorkerFace) (items : List ClaimItem) → IsDue g w c items → KeepsClaim t inputs c w x
    → IsDue g x c items
due_on g t inputs c w x items due on =
    let view : x.pass.view ≡ pieced_on (read_on w.pass.view on.pass.heads) on.pass.words =
    ap (λ (p : PassFace). p.view) on.pass.pass in
    record {
      draws = due.draws;
      drawn = subst
          (λ (v : View). v.draws ≡ due.draws ++ draw_of_claim v c ∷ []) (sym view)
          due.drawn;
      worked = same_work g w.setup x.setup w.pass.view.plan x.pass.view.plan
          (made_of due.draws x.reads items) on.setup on.pass.plan
          (worked_still w.setup g w.pass.view.plan.from w.pass.view.plan.packets
          (made_of due.draws w.reads items) (looks_of x.reads) (heard_of x.reads) due.worked
          on.knows);
    }

-- the claim that was due, gathered
pub closed : (t : TableFace) (inputs : List InputFace) (c : Claim) (got : Gathered)
    (w x : WorkerFace) (items : List ClaimItem) → IsDue GatherClosed w c items
    → KeepsClaim t inputs c w x → GivesClosed c w x got
    → IsAllMade GatherClosed x (items ++ item_of c got ∷ [])
closed t inputs c got w x items was on gives =
    let due = due_on GatherClosed t inputs c w x items was on in
    let p : Plan = x.pass.view.plan in let d : Draw = draw_of_claim x.pass.view c in
    subst
    (λ (ds : List Draw). IsWorked x.setup GatherClosed p.from p.packets
    (made_of ds x.reads (items ++ item_of c got ∷ []))) (sym due.drawn)
    (worked_more x.setup GatherClosed p.from p.packets (made_of due.draws x.reads items) d
    (looks_of x.reads) (heard_of x.reads) (item_of c got) due.worked on.last.claim.early
    (λ blocks a. a)
    (λ blocks a. closed_item x.setup p.from d (looks_of x.reads) (heard_of x.reads)
    (item_of c got) blocks gives.gathers a))

pub free : (seen : Sights) (t : TableFace) (inputs : List InputFace) (c : Claim) (got : Gathered)
    (w x : WorkerFace) (items : List ClaimItem) → IsDue (GatherFree seen) w c items
    → KeepsClaim t inputs c w x → GivesFree c w x got
    → IsSeenBefore w.setup seen (looks_of w.reads) c.k
    → IsAllMade (GatherFree seen) x (items ++ item_of c got ∷ [])
free seen t inputs c got w x items was on gives before =
    let due = due_on (GatherFree seen) t inputs c w x items was on in
    let p : Plan = x.pass.view.plan in let d : Draw = draw_of_claim x.pass.view c in
    subst
    (λ (ds : List Draw). IsWorked x.setup (GatherFree seen) p.from p.packets
    (made_of ds x.reads (items ++ item_of c got ∷ []))) (sym due.drawn)
    (worked_more x.setup (GatherFree seen) p.from p.packets (made_of due.draws x.reads items) d
    (looks_of x.reads) (heard_of x.reads) (item_of c got) due.worked on.last.claim.early
    (λ blocks a. a)
    (λ blocks a. free_item x.setup seen p.from d (looks_of w.reads) (looks_of x.reads)
    (heard_of x.reads) (item_of c got) blocks gives.gathers
    (subst (λ (s : SetupParts). IsSeenBefore s seen (looks_of w.reads) c.k) (sym on.setup)
    before) a))

pub paced : (g : Gathering) (w x : WorkerFace) (c : Claim) (items : List ClaimItem)
    → x ≡ record w { reads = x.reads } → KnowsOn w x
    → (IsAllMade g w items → IsAllMade g x items) × (IsDue g w c items → IsDue g x c items)
paced g w x c items kept knows =
    let setup : x.setup ≡ w.setup = ap (λ (z : WorkerFace). z.setup) kept in
    let view : x.pass.view ≡ w.pass.view = ap (λ (z : WorkerFace). z.pass.view) kept in
    let plan : x.pass.view.plan ≡ w.pass.view.plan = ap (λ (v : View). v.plan) view in
    let on : (ds : List Draw)
    → IsWorked w.setup g w.pass.view.plan.from w.pass.view.plan.packets
    (made_of ds w.reads items)
    → IsWorked x.setup g x.pass.view.plan.from x.pass.view.plan.packets
    (made_of ds x.reads items) =
    λ ds h. same_work g w.setup x.setup w.pass.view.plan x.pass.view.plan (made_of ds x.reads items)
    setup plan
    (worked_still w.setup g w.pass.view.plan.from w.pass.view.plan.packets
    (made_of ds w.reads items) (looks_of x.reads) (heard_of x.reads) h knows) in (
      (λ all. subst
          (λ (v : View). IsWorked x.setup g x.pass.view.plan.from x.pass.view.plan.packets
          (made_of v.draws x.reads items)) (sym view)
          (on w.pass.view.draws all)),
      (λ due. record {
        draws = due.draws;
        drawn = subst
            (λ (v : View). v.draws ≡ due.draws ++ draw_of_claim v c ∷ []) (sym view)
            due.drawn;
        worked = on due.draws due.worked;
      }),
    )

-- ---- a claim in free form, whatever was gathered

seen_there : (d : DeviceParts) (looks : List Look) (heard : List HeardSample) (blocks : Blocks)
    (input tick : ℕ) → Agrees d looks heard blocks → SawBlock looks input tick
    → is_some (blocks input tick) ≡ true
seen_there d looks heard blocks input tick is saw =
    ap (λ (i : ℕ). is_some (blocks i tick)) (sym saw.input_is)
    ∙ ap (λ (t : ℕ). is_some (blocks saw.look.input t)) (sym saw.tick_is)
    ∙ All-contains (λ (l : Look). l.present ≡ true → is_some (blocks l.input l.tick) ≡ true) looks
    saw.look is.seen saw.among saw.saw_it

-- flags in closed form are flags in free form
pub closed_free : (seen : Sights) (t : TableFace) (inputs : List InputFace) (c : Claim)
    (got : Gathered) (w x : WorkerFace) (items : List ClaimItem) → IsDue (GatherFree seen) w c items
    → KeepsClaim t inputs c w x → GivesClosed c w x got
    → IsSeenBefore x.setup seen (looks_of x.reads) c.k
    → IsAllMade (GatherFree seen) x (items ++ item_of c got ∷ [])
closed_free seen t inputs c got w x items was on gives before =
    let due = due_on (GatherFree seen) t inputs c w x items was on in
    let p : Plan = x.pass.view.plan in let d : Draw = draw_of_claim x.pass.view c in
    subst
    (λ (ds : List Draw). IsWorked x.setup (GatherFree seen) p.from p.packets
    (made_of ds x.reads (items ++ item_of c got ∷ []))) (sym due.drawn)
    (worked_more x.setup (GatherFree seen) p.from p.packets (made_of due.draws x.reads items) d
    (looks_of x.reads) (heard_of x.reads) (item_of c got) due.worked on.last.claim.early
    (λ blocks a. a)
    (λ blocks a. let item = closed_item x.setup p.from d (looks_of x.reads) (heard_of x.reads)
    (item_of c got) blocks gives.gathers a in record {
      number = item.number;
      flags = closed_are_free x.setup seen x.pass.view.entries blocks c.k got.found.now
          (λ input lt saw. seen_there x.setup.device (looks_of x.reads) (heard_of x.reads)
          blocks input (tick_of_claim x.setup c.k) a (before input saw)) item.flags;
      packet = item.packet;
    }))

silent : (n input : ℕ) → flag_of (replicate n false) input ≡ false
silent n input = elim (cases_lt input n) [
  | inl lt ↦ get_or-replicate n input false false lt
  | inr past ↦
      get_or_past (replicate n false) input false
      (let l = length-replicate n false in omega (arith, l, past))
]

-- a claim that was not gathered, with no block found
pub unsent : (seen : Sights) (w : WorkerFace) (c : Claim) (items : List ClaimItem)
    → IsDue (GatherFree seen) w c items → IsLast w.pass.view c → IsUnseen seen w c
    → IsAllMade (GatherFree seen) w (items ++ unsent_item w c ∷ [])
unsent seen w c items due last unseen =
    let p : Plan = w.pass.view.plan in let d : Draw = draw_of_claim w.pass.view c in
    let n : ℕ = length w.setup.device.inputs in
    subst
    (λ (ds : List Draw). IsWorked w.setup (GatherFree seen) p.from p.packets
    (made_of ds w.reads (items ++ unsent_item w c ∷ []))) (sym due.drawn)
    (worked_more w.setup (GatherFree seen) p.from p.packets (made_of due.draws w.reads items) d
    (looks_of w.reads) (heard_of w.reads) (unsent_item w c) due.worked last.claim.early
    (λ blocks a. a)
    (λ blocks a. record {
      number = last.claim.k;
      flags = record {
        long = length-replicate n false;
        each = λ input lt. record {
          only = λ on. absurd (false≢true (sym (silent n input) ∙ on));
          wherever = λ named saw. absurd (false≢true (sym (unseen input lt) ∙ saw));
        };
      };
      packet = packet_by-same w.setup w.pass.view.entries w.pass.view.entries
          (λ input tick. None) blocks (replicate n false) (replicate n false) c.k
          (λ frame lt. refl) (λ input named. refl)
          (λ input named on. absurd (false≢true (sym (silent n input) ∙ on)));
    }))

-- ---- a table that was drawn in part

few_same : (packets drawn number : ℕ) → number < drawn
    → nat_lt number packets ≡ nat_lt number (min drawn packets)
few_same packets drawn number lt = elim (cases_lt number packets) [
  | inl few ↦
      lt-ltb number packets few ∙ sym (lt-ltb number (min drawn packets) (omega (arith, lt, few)))
  | inr past ↦
      le-ltb number packets past ∙ sym (le-ltb number (min drawn packets) (omega (arith, past)))
]

filter_few : (packets drawn : ℕ) (draws : List Draw) → All (λ d. d.number < drawn) draws
    → filter (is_packet packets) draws ≡ filter (is_packet (min drawn packets)) draws
filter_few packets drawn [] h = refl
filter_few packets drawn (d ∷ ds) h =
    (λ k. cond (few_same packets drawn d.number (h 0 d (omega arith)) k)
    (d ∷ filter_few packets drawn ds (λ i e lt. h (suc i) e (omega arith)) k)
    (filter_few packets drawn ds (λ i e lt. h (suc i) e (omega arith)) k))

pub drawn_in_part : (s : SetupParts) (g : Gathering) (from packets drawn : ℕ) (w : Made)
    → All (λ d. d.number < drawn) w.draws → IsWorked s g from packets w
    → IsWorked s g from (min drawn packets) w
drawn_in_part s g from packets drawn w few is blocks a =
    subst (λ (ds : List Draw). AllZip (IsItem s g blocks from) ds w.items)
    (filter_few packets drawn w.draws few) (is blocks a)
