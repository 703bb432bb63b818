-- A lap that has ended is one in the words for sessions.
use Rattle.std.proofs.Common.{◌≡◌, ℕ, ◌+◌, ◌*◌, ◌<◌, ◌≤◌, List, [], ◌∷◌, ◌++◌, length, min, refl}
use Rattle.std.proofs.Common.{sym, ap, ◌∙◌, subst, arith}
use Rattle.std.specs.Prelude.{All, take}
use Rattle.std.specs.List.{AllByRecursion}
use Rattle.std.proofs.Math.Seq.{take-append_seam}
use Rattle.std.proofs.lemmas.List.Elements.{All-from_recursion, All-weaker, recursion_from_All}
use Rattle.list_laws.proofs.Items.{All-left}
use Rattle.map_entry.specs.Setup.{SetupParts}
use Rattle.map_entry.specs.declared.entry.Entry.{Entry}
use Rattle.claim_rule.specs.declared.plan.Plan.{Plan}
use Rattle.claim_rule.specs.declared.view.Draw.{Draw}
use Rattle.claim_rule.specs.declared.view.Sight.{Sight}
use Rattle.claim_rule.specs.Rule.{IsGood}
use Rattle.claim_rule.specs.Views.{IsSight}
use Rattle.claim_word.specs.Endings.{draws_in, seen_in}
use Rattle.input_cells.specs.Agreement.{Agrees, blocks_set}
use Rattle.input_cells.specs.Faces.{heard_of, looks_of}
use Rattle.session_laws.specs.Facts.{Gathering, IsEnded, IsFed, IsWorked, Made, draws_of}
use Rattle.session_laws.proofs.Tabled.{ended as table_ended}
use Rattle.packet_writer.specs.Packet.{Blocks}
use Rattle.packet_worker.specs.Faces.{IsWorkerOf, WorkerFace}
use Rattle.packet_worker.specs.Jobs.{IsAllMade}
use Rattle.packet_worker.specs.Told.{made_by}
use Rattle.packet_worker.proofs.Working.{drawn_in_part}
use Rattle.book_words.specs.declared.calls.JournalCall.{JournalCall}
use Rattle.book_words.specs.declared.history.ClaimItem.{ClaimItem}
use Rattle.plain_book.specs.Given.{AreGiven}
use Rattle.plain_book.specs.Rows.{SelectsAlike}
use Rattle.plain_book.proofs.Giving.{given_later}
use Rattle.live_book.specs.Books.{high, last_raw}
use Rattle.live_book.proofs.Sights.{last_below}
use Rattle.session_laps.specs.declared.lap.Lap.{Lap}
use Rattle.session_laps.specs.Laps.{IsAt, IsBack, IsEndedLap, passes_in}
use Rattle.session_laps.specs.Told.{AreAllMade, IsToldLap, made_all, made_in}

-- ---- workers

-- the draws of what workers made are those of their passes
pub draws_all : (ws : List WorkerFace) (items : List (List ClaimItem))
    → draws_of (made_all ws items) ≡ draws_in (passes_in ws)
draws_all [] items = refl
draws_all (w ∷ ws) [] = ap (λ (z : List Draw). w.pass.view.draws ++ z) (draws_all ws [])
draws_all (w ∷ ws) (own ∷ items) =
    ap (λ (z : List Draw). w.pass.view.draws ++ z) (draws_all ws items)

-- all of the draws of several passes
first_draws : (P : Draw → Type 0) (xs ys : List Draw) → AllByRecursion P (xs ++ ys)
    → AllByRecursion P xs × AllByRecursion P ys
first_draws P [] ys all = (tt, all)
first_draws P (x ∷ xs) ys all =
    let rest = first_draws P xs ys all.1 in ((all.0, rest.0), rest.1)

worker_made : (s : SetupParts) (g : Gathering) (plan : Plan) (drawn : ℕ) (w : WorkerFace)
    (own : List ClaimItem) → w.setup ≡ s → w.pass.view.plan ≡ plan
    → AllByRecursion (λ d. d.number < drawn) w.pass.view.draws → IsAllMade g w own
    → IsWorked s g plan.from (min drawn plan.packets) (made_by w own)
worker_made s g plan drawn w own setup of low made =
    drawn_in_part s g plan.from plan.packets drawn (made_by w own)
    (All-from_recursion (λ (d : Draw). d.number < drawn) w.pass.view.draws low)
    (subst (λ (p : Plan). IsWorked s g p.from p.packets (made_by w own)) of
    (subst (λ (z : SetupParts). IsWorked z g w.pass.view.plan.from w.pass.view.plan.packets
    (made_by w own)) setup made))

-- a worker is of this setup and plan
abbrev IsOfPlan : SetupParts → Plan → WorkerFace → Type 0
IsOfPlan s plan w = (w.setup ≡ s) × (w.pass.view.plan ≡ plan)

workers_made : (s : SetupParts) (g : Gathering) (plan : Plan) (drawn : ℕ) (ws : List WorkerFace)
    (items : List (List ClaimItem)) → AllByRecursion (IsOfPlan s plan) ws
    → AllByRecursion (λ d. d.number < drawn) (draws_in (passes_in ws)) → AreAllMade g ws items
    → AllByRecursion (IsWorked s g plan.from (min drawn plan.packets)) (made_all ws items)
workers_made s g plan drawn [] items of low made = tt
workers_made s g plan drawn (w ∷ ws) [] of low made =
    let parts = first_draws (λ (d : Draw). d.number < drawn) w.pass.view.draws
    (draws_in (passes_in ws)) low in (
      worker_made s g plan drawn w [] of.0.0 of.0.1 parts.0 made.0,
      workers_made s g plan drawn ws [] of.1 parts.1 made.1,
    )
workers_made s g plan drawn (w ∷ ws) (own ∷ items) of low made =
    let parts = first_draws (λ (d : Draw). d.number < drawn) w.pass.view.draws
    (draws_in (passes_in ws)) low in (
      worker_made s g plan drawn w own of.0.0 of.0.1 parts.0 made.0,
      workers_made s g plan drawn ws items of.1 parts.1 made.1,
    )

workers_agree : (s : SetupParts) (set : Blocks) (ws : List WorkerFace)
    (items : List (List ClaimItem))
    → AllByRecursion (λ w. Agrees s.device (looks_of w.reads) (heard_of w.reads) set) ws
    → AllByRecursion (λ m. Agrees s.device m.looks m.heard set) (made_all ws items)
workers_agree s set [] items all = tt
workers_agree s set (w ∷ ws) [] all = (all.0, workers_agree s set ws [] all.1)
workers_agree s set (w ∷ ws) (own ∷ items) all = (all.0, workers_agree s set ws items all.1)

-- ---- a lap

-- the calls before the lap are those of this number
start_same : (start calls other more : List JournalCall) → length start ≡ length other
    → start ++ calls ≡ other ++ more → start ≡ other
start_same start calls other more long same =
    sym (take-append_seam start calls)
    ∙ ap (λ (n : ℕ). take n (start ++ calls)) long
    ∙ ap (take (length other)) same
    ∙ take-append_seam other more

given_told : (s : SetupParts) (before : ℕ) (lap : Lap) → IsAt s before lap → IsBack lap
    → IsEndedLap lap
    → (start : List JournalCall) → length start ≡ lap.book.begun
    → (calls : List JournalCall) → lap.book.journal ≡ start ++ calls
    → AreGiven s start (before * length s.device.outputs) lap.book.given lap.book.journal
    (before * length s.device.outputs + made_in lap)
given_told s before lap at back ended start long calls journal =
    let v = lap.book.publisher.view in
    let l = ended.book.lapped in
    let plan : v.plan ≡ lap.table.plan = back.of_publisher.plan_is in
    let from : v.plan.from ≡ before * length s.device.outputs =
    ap (λ (p : Plan). p.from) plan ∙ at.first in
    let packets : v.plan.packets ≡ lap.table.plan.packets = ap (λ (p : Plan). p.packets) plan in
    let setup : lap.book.setup ≡ s =
    sym ended.book.setup_is ∙ ap (λ (p : Plan). p.setup) plan ∙ at.setup in
    let same : l.start ≡ start =
    start_same l.start l.calls start calls (l.start_is ∙ sym long) (sym l.journal_is ∙ journal) in
    let drawn : ℕ = length (draws_in (passes_in lap.workers)) in
    let sights = All-left (IsSight (length v.entries) drawn) v.sights
    (v.told ++ seen_in lap.clients) ended.tables.ends.sights in
    let low : last_raw v.sights ≤ drawn =
    last_below drawn v.sights
    (All-weaker (IsSight (length v.entries) drawn) (λ (x : Sight). x.raw ≤ drawn)
    (λ (x : Sight) (i : IsSight (length v.entries) drawn x). i.raw) v.sights sights) in
    let up : high v ≤ v.plan.from + made_in lap = omega (arith, low, packets) in
    let own : AreGiven s start v.plan.from lap.book.given lap.book.journal (high v) =
    subst (λ (z : SetupParts). AreGiven z start v.plan.from lap.book.given lap.book.journal (high v))
    setup
    (subst (λ (j : List JournalCall).
    AreGiven lap.book.setup j v.plan.from lap.book.given lap.book.journal (high v)) same
    l.given_are) in
    let later = given_later s start lap.book.journal v.plan.from (high v)
    (v.plan.from + made_in lap) lap.book.given own up in
    subst (λ (n : ℕ). AreGiven s start n lap.book.given lap.book.journal (n + made_in lap)) from
    later

-- by any blocks with which the workers agree
pub told_by : (s : SetupParts) (g : Gathering) (blocks set : Blocks) (before : ℕ) (lap : Lap)
    (items : List (List ClaimItem)) → IsAt s before lap → IsBack lap → IsEndedLap lap
    → All (λ w. Agrees s.device (looks_of w.reads) (heard_of w.reads) set) lap.workers
    → AreAllMade g lap.workers items
    → IsFed s g (s.device.base + before) lap.ticks set blocks
    → IsToldLap s g blocks before lap items
told_by s g blocks set before lap items at back ended agree made fed =
    let plan = lap.table.plan in
    let list : List Entry = lap.book.publisher.view.entries in
    let draws : List Draw = draws_in (passes_in lap.workers) in
    let of : AllByRecursion (IsOfPlan s plan) lap.workers =
    recursion_from_All (IsOfPlan s plan) lap.workers
    (All-weaker (IsWorkerOf lap.table lap.inputs) (IsOfPlan s plan)
    (λ (w : WorkerFace) (i : IsWorkerOf lap.table lap.inputs w).
    (sym i.setup ∙ at.setup, i.pass.plan_is)) lap.workers back.of_workers) in
    let low : AllByRecursion (λ d. d.number < length draws) draws =
    recursion_from_All (λ (d : Draw). d.number < length draws) draws
    (All-weaker (IsGood plan list (length draws)) (λ (d : Draw). d.number < length draws)
    (λ (d : Draw) (i : IsGood plan list (length draws) d). i.below) draws
    ended.tables.ends.good) in
    let worked = workers_made s g plan (length draws) lap.workers items of low made in
    record {
      is_lap = record {
        plan = plan;
        setup_is = at.setup;
        from_is = at.first;
        packets_are = at.packets;
        most = omega arith;
        list = list;
        set = set;
        ended =
            subst (IsEnded plan (made_in lap) list) (sym (draws_all lap.workers items))
            (table_ended plan (made_in lap) list draws _ ended.tables.ends (omega arith));
        rules =
            subst (λ (n : ℕ). SelectsAlike s n list lap.book.journal)
            (ap (λ (p : Plan). p.from) back.of_publisher.plan_is ∙ at.first)
            (subst (λ (z : SetupParts).
            SelectsAlike z lap.book.publisher.view.plan.from list lap.book.journal)
            (sym ended.book.setup_is ∙ ap (λ (p : Plan). p.setup) back.of_publisher.plan_is ∙ at.setup)
            ended.book.rules);
        worked =
            All-from_recursion (IsWorked s g (before * length s.device.outputs) (made_in lap))
            (made_all lap.workers items)
            (subst (λ (n : ℕ). AllByRecursion (IsWorked s g n (made_in lap))
            (made_all lap.workers items)) at.first worked);
        read =
            All-from_recursion (λ (m : Made). Agrees s.device m.looks m.heard set)
            (made_all lap.workers items)
            (workers_agree s set lap.workers items
            (recursion_from_All (λ (w : WorkerFace). Agrees s.device (looks_of w.reads)
            (heard_of w.reads) set) lap.workers agree));
        fed = fed;
      };
      given = given_told s before lap at back ended;
    }

-- and by those that were set
pub told : (s : SetupParts) (g : Gathering) (blocks : Blocks) (before : ℕ) (lap : Lap)
    (items : List (List ClaimItem)) → IsAt s before lap → IsBack lap → IsEndedLap lap
    → AreAllMade g lap.workers items
    → IsFed s g (s.device.base + before) lap.ticks (blocks_set lap.feeds) blocks
    → IsToldLap s g blocks before lap items
told s g blocks before lap items at back ended =
    told_by s g blocks (blocks_set lap.feeds) before lap items at back ended
    (ended.tables.agree s (s.device.base + before) lap.ticks at.inputs)
