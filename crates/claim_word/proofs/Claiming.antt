-- What a worker's pass keeps as it draws and reads.
use Rattle.std.proofs.Common.{◌*◌}
use Rattle.std.proofs.Common.{◌≡◌, ℕ, ◌+◌, ◌-◌, ◌/◌, ◌<◌, ◌≤◌, cond, Bool, true, false, List, []}
use Rattle.std.proofs.Common.{◌∷◌, ◌++◌, map, length, get_or, set, refl, sym, ap, ◌∙◌, subst}
use Rattle.std.proofs.Common.{arith}
use Rattle.std.proofs.Common.{eq-eqb, get_or-set_same}
use Rattle.std.specs.Prelude.{Option, Some, None, IsSomeAnd, MatchBool, filter, slice_get}
use Rattle.std.specs.Prelude.{replicate, vec_capacity}
use Rattle.std.specs.List.{All, AllZip, sum_by}
use Rattle.std.proofs.lemmas.Bool.{lt-ltb}
use Rattle.std.proofs.lemmas.Bool.Decides.{nat_tests}
use Rattle.std.proofs.lemmas.List.{append-nil, get_or_append_left, get_or_at, length-map}
use Rattle.std.proofs.lemmas.List.{length_push, map-append}
use Rattle.std.proofs.lemmas.List.Elements.{filter-append, All-nil, All-push, All-weaker}
use Rattle.std.proofs.lemmas.List.Sums.{sum_by_push}
use Rattle.std.proofs.lemmas.Nat.{div-add-mod', le-div, mod_below}
use Rattle.std.proofs.lemmas.Option.{slice_get-get_or, slice_get_within}
use Rattle.std.proofs.lemmas.Option.{get_or_from_slice_get}
use Rattle.map_entry.specs.declared.cell.Cell.{Cell}
use Rattle.map_entry.specs.declared.entry.Entry.{Entry}
use Rattle.map_entry.specs.Entry.{selected, HasRowsFrom}
use Rattle.map_entry.specs.Row.{channels_of_output}
use Rattle.map_entry.specs.Setup.{HasCells}
use Rattle.claim_rule.specs.declared.plan.Plan.{Plan}
use Rattle.claim_rule.specs.declared.view.View.{View}
use Rattle.claim_rule.specs.declared.view.Draw.{Draw}
use Rattle.claim_rule.specs.Claims.{outputs_of, output_of, tick_of, IsFit, IsSound}
use Rattle.claim_rule.specs.Words.{head_words, places}
use Rattle.claim_rule.specs.Plays.{IsFound}
use Rattle.claim_rule.specs.Views.{Begins, draw, drew, late, overs, is_at, times, worker}
use Rattle.claim_rule.proofs.Lists.{begins_more, begins_same}
use Rattle.claim_word.specs.declared.chain.Head.{Head}
use Rattle.claim_word.specs.declared.memory.Memory.{Memory}
use Rattle.claim_word.specs.declared.span.Span.{Span}
use Rattle.claim_word.specs.declared.worker.Claim.{Claim}
use Rattle.claim_word.specs.Claims.{claims_of, is_packet, number_of, row_words, head_of, HasRow}
use Rattle.claim_word.specs.Claims.{IsClaim, IsFrugal, IsLast, IsLastDraw, IsMemory, IsWorker}
use Rattle.map_entry.specs.Tick.{frame_key}
use Rattle.claim_word.specs.Claims.{begin_of, pieced_on, read_on, IsLearnt}
use Rattle.claim_word.specs.Chains.{HavePassed, IsChained}
use Rattle.claim_word.specs.Faces.{IsSpan}
use Rattle.claim_word.specs.Holding.{IsHeld}
use Rattle.claim_word.proofs.Holding.{held_more, held_new}
use Rattle.claim_word.proofs.Chaining.{chained_new, passed_new}
use Rattle.claim_word.proofs.Remembering.{heads_few, rows_set, rows_there}
use Rattle.std.proofs.lemmas.Slice.Zip.{AllZip-long}

-- ---- the last draw

last_pushed : (ds : List Draw) (d e : Draw)
    → slice_get (ds ++ d ∷ []) (length (ds ++ d ∷ []) - 1) ≡ Some e → d ≡ e
last_pushed ds d e is =
    let l = length_push ds d in let at : length (ds ++ d ∷ []) - 1 ≡ length ds = omega arith in
    sym (get_or_at ds d [] d (length ds) refl)
    ∙ (ap (λ (k : ℕ). get_or (ds ++ d ∷ []) k d) (sym at)
    ∙ get_or_from_slice_get (ds ++ d ∷ []) (length (ds ++ d ∷ []) - 1) e d is)

pub last_drawn : (v : View) (number : ℕ) (found : List Entry)
    → IsLastDraw (drew v number found) number
last_drawn v number found =
    let d : Draw = draw number found in let ds : List Draw = v.draws in
    let l = length_push ds d in let at : length ds ≡ length (ds ++ d ∷ []) - 1 = omega arith in
    subst (λ (k : ℕ). slice_get (ds ++ d ∷ []) k ≡ Some d) at
    (slice_get-get_or (ds ++ d ∷ []) (length ds) d (omega arith)
    ∙ ap Some (get_or_at ds d [] d (length ds) refl))

pub only_last : (v : View) (number : ℕ) (found : List Entry) (n : ℕ)
    → IsLastDraw (drew v number found) n → n ≡ number
only_last v number found n last =
    sym (ap (λ (d : Draw). d.number) (last_pushed v.draws (draw number found) (draw n found) last))

-- the claim of the number drawn is that of the last draw
pub last_claimed : (v : View) (number : ℕ) (found : List Entry) (c : Claim)
    → IsClaim v.plan number found c → IsLast (drew v number found) c
last_claimed v number found c it =
    let same : number ≡ number_of v.plan c = let k = it.k in omega arith in record {
      draw = subst (IsLastDraw (drew v number found)) same (last_drawn v number found);
      claim = subst (λ (n : ℕ). IsClaim v.plan n found c) same it;
    }

-- two last draws are one
pub one_last : (v : View) (n m : ℕ) → IsLastDraw v n → IsLastDraw v m → n ≡ m
one_last v n m a b =
    let d : Draw = draw n v.entries in
    ap (λ (x : Draw). x.number) (sym (get_or_from_slice_get v.draws (length v.draws - 1) d d a)
    ∙ get_or_from_slice_get v.draws (length v.draws - 1) (draw m v.entries) d b)

-- ---- claims

packet_is : (plan : Plan) (number : ℕ) (found : List Entry) → number < plan.packets
    → is_packet plan (draw number found) ≡ true
packet_is plan number found early = lt-ltb number plan.packets early

packet_not : (plan : Plan) (number : ℕ) (found : List Entry) → plan.packets ≤ number
    → is_packet plan (draw number found) ≡ false
packet_not plan number found over = grind (arith, nat_tests)

pub claims_packet : (plan : Plan) (ds : List Draw) (number : ℕ) (found : List Entry)
    → number < plan.packets
    → claims_of plan (ds ++ draw number found ∷ []) ≡ claims_of plan ds ++ (plan.from + number) ∷ []
claims_packet plan ds number found early =
    let f : Draw → ℕ = λ d. plan.from + d.number in
    let one : filter (is_packet plan) (draw number found ∷ []) ≡ draw number found ∷ [] =
    rw (packet_is plan number found early) refl in
    ap (map f) (filter-append (is_packet plan) ds (draw number found ∷ [])
    ∙ ap (λ (l : List Draw). filter (is_packet plan) ds ++ l) one)
    ∙ map-append f (filter (is_packet plan) ds) (draw number found ∷ [])

pub claims_over : (plan : Plan) (ds : List Draw) (number : ℕ) (found : List Entry)
    → plan.packets ≤ number
    → claims_of plan (ds ++ draw number found ∷ []) ≡ claims_of plan ds
claims_over plan ds number found over =
    let none_left : filter (is_packet plan) (draw number found ∷ []) ≡ [] =
    rw (packet_not plan number found over) refl in
    ap (map (λ d. plan.from + d.number))
    (filter-append (is_packet plan) ds (draw number found ∷ [])
    ∙ (ap (λ (l : List Draw). filter (is_packet plan) ds ++ l) none_left
    ∙ append-nil (filter (is_packet plan) ds)))

few_by : (b : Bool) (p : Draw → Bool) (d : Draw) (ds : List Draw) → length (filter p ds) ≤ length ds
    → length (cond b (d ∷ filter p ds) (filter p ds)) ≤ length (d ∷ ds)
few_by true p d ds few = omega arith
few_by false p d ds few = omega arith

filter_few : (p : Draw → Bool) (ds : List Draw) → length (filter p ds) ≤ length ds
filter_few p [] = omega arith
filter_few p (d ∷ ds) = few_by (p d) p d ds (filter_few p ds)

-- as many claims as draws at most
pub claims_few : (plan : Plan) (ds : List Draw) → length (claims_of plan ds) ≤ length ds
claims_few plan ds =
    let m = length-map (filter (is_packet plan) ds) (λ (d : Draw). plan.from + d.number) in
    let f = filter_few (is_packet plan) ds in omega arith

-- ---- loads

words_of_packet : (plan : Plan) (number : ℕ) (found : List Entry) → number < plan.packets
    → row_words plan (draw number found) ≡ channels_of_output plan.setup.device
    (output_of plan number)
words_of_packet plan number found early = rw (packet_is plan number found early) refl

pub frugal_of : (v : View) (m : Memory) → IsMemory v m → IsFrugal v
frugal_of v m memory = let l = memory.loads in
    let f = heads_few v.entries m.heads.items memory.heads in omega arith

-- ---- what is remembered after a draw

-- what holds of all draws holds of those before the last
draws_before : (ds : List Draw) (d : Draw) (P : Draw → Type 0) → All P (ds ++ d ∷ []) → All P ds
draws_before ds d P all = λ k e lt.
    let l = length_push ds d in
    subst P (get_or_append_left ds (d ∷ []) e k lt) (all k e (omega arith))

heads_found : (v : View) (m : Memory) (found : List Entry) → IsMemory v m → Begins v.entries found
    → Begins m.heads.items (map head_of found)
heads_found v m found memory more =
    let grown : map head_of found ≡ map head_of v.entries ++ map head_of more.0 =
    ap (map head_of) more.1 ∙ map-append head_of v.entries more.0 in
    subst (Begins m.heads.items) (sym grown)
    (begins_more m.heads.items (map head_of v.entries) (map head_of more.0) memory.heads)

pub memory_packet : (v : View) (m : Memory) (number : ℕ) (found : List Entry) → IsMemory v m
    → Begins v.entries found → number < v.plan.packets
    → IsMemory (drew v number found) (record m { ready = false })
memory_packet v m number found memory more early =
    let d : Draw = draw number found in
    let sum : sum_by (row_words v.plan) (v.draws ++ d ∷ []) ≡ sum_by (row_words v.plan)
    v.draws + row_words v.plan d = sum_by_push (row_words v.plan) v.draws d in
    let l = memory.loads in record {
      room = memory.room;
      heads = heads_found v m found memory more;
      chains = memory.chains;
      reached = memory.reached;
      passed = memory.passed;
      begun = λ n all. memory.begun n (draws_before v.draws d (λ (x : Draw). x.number ≤ n) all);
      rows = memory.rows;
      parts = memory.parts;
      rows_held = held_more v.entries found (length v.plan.setup.device.outputs)
          m.row_places.items m.rows.items more memory.rows_held;
      parts_held = held_more v.entries found (length v.plan.setup.device.outputs)
          m.part_places.items m.parts.items more memory.parts_held;
      loads = omega arith;
      last = λ n last _.
          let words = words_of_packet v.plan number found early in
          subst
          (λ (k : ℕ). v.loads + channels_of_output v.plan.setup.device (output_of v.plan k)
          ≤ head_words * length m.heads.items + sum_by (row_words v.plan) (v.draws ++ d ∷ []))
          (sym (only_last v number found n last)) (omega arith);
    }

pub memory_over : (v : View) (m : Memory) (number : ℕ) (found : List Entry) → IsMemory v m
    → Begins v.entries found → v.plan.packets ≤ number
    → IsMemory (drew v number found) m
memory_over v m number found memory more over =
    let d : Draw = draw number found in
    let sum : sum_by (row_words v.plan) (v.draws ++ d ∷ []) ≡ sum_by (row_words v.plan)
    v.draws + row_words v.plan d = sum_by_push (row_words v.plan) v.draws d in
    let l = memory.loads in record {
      room = memory.room;
      heads = heads_found v m found memory more;
      chains = memory.chains;
      reached = memory.reached;
      passed = memory.passed;
      begun = λ n all. memory.begun n (draws_before v.draws d (λ (x : Draw). x.number ≤ n) all);
      rows = memory.rows;
      parts = memory.parts;
      rows_held = held_more v.entries found (length v.plan.setup.device.outputs)
          m.row_places.items m.rows.items more memory.rows_held;
      parts_held = held_more v.entries found (length v.plan.setup.device.outputs)
          m.part_places.items m.parts.items more memory.parts_held;
      loads = omega arith;
      last = λ n last early. let same = only_last v number found n last in absurd (omega arith);
    }

-- ---- the pass after a draw

late_packet : (plan : Plan) (number : ℕ) (found : List Entry) → number < plan.packets
    → late plan (draw number found) ≡ 0
late_packet plan number found early = grind (arith, nat_tests)

is_here : (number : ℕ) (found : List Entry) → is_at number (draw number found) ≡ 1
is_here number found = ap (λ (b : Bool). cond {A = ℕ} b 1 0) (eq-eqb number number refl)

once_there : (ds : List Draw) (number : ℕ) (found : List Entry)
    → 0 < times number (ds ++ draw number found ∷ [])
once_there ds number found = let s = sum_by_push (is_at number) ds (draw number found) in
    let one = is_here number found in omega (arith, s, one)

-- the last draw has the greatest number
top_drawn : (v : View) (number : ℕ) (found : List Entry) → All (λ d. d.number < number) v.draws
    → (n : ℕ) → IsLastDraw (drew v number found) n
    → All (λ d. d.number ≤ n) (drew v number found).draws
top_drawn v number found rises n last =
    let same : n ≡ number = only_last v number found n last in
    All-push (λ (d : Draw). d.number ≤ n) v.draws (draw number found)
    (All-weaker (λ (d : Draw). d.number < number) (λ (d : Draw). d.number ≤ n)
    (λ (d : Draw) (less : d.number < number). omega (arith, less, same)) v.draws rises)
    (omega (arith, same))

pub worker_packet : (v : View) (span : Span) (claims : List ℕ) (room number word : ℕ)
    (found : List Entry) → IsWorker v span claims room false
    → IsFound v.plan found word → All (λ d. d.number < number) v.draws → number < v.plan.packets
    → IsWorker (drew v number found) span (claims ++ (v.plan.from + number) ∷ []) room false
worker_packet v span claims room number word found p it rises early = record {
  sound = p.sound;
  span_is = p.span_is;
  live = p.live;
  quiet = p.quiet;
  part = p.part;
  early = λ _.
      let s : overs v.plan (drew v number found) ≡ overs v.plan v + late v.plan (draw number found)
      = sum_by_push (late v.plan) v.draws (draw number found) in
      let a = p.early refl in let b = late_packet v.plan number found early in omega arith;
  top = top_drawn v number found rises;
  over = λ bad. absurd cc;
  claims_are = ap (λ (l : List ℕ). l ++ (v.plan.from + number) ∷ []) p.claims_are
      ∙ sym (claims_packet v.plan v.draws number found early);
  room_is = p.room_is;
  few = it.room;
  fits = it.fits;
  covers = λ _. it.covers;
}

pub worker_over : (v : View) (span : Span) (claims : List ℕ) (room number word : ℕ)
    (found : List Entry) → IsWorker v span claims room false
    → IsFound v.plan found word → All (λ d. d.number < number) v.draws → v.plan.packets ≤ number
    → IsWorker (drew v number found) span claims room true
worker_over v span claims room number word found p it rises over = record {
  sound = p.sound;
  span_is = p.span_is;
  live = p.live;
  quiet = p.quiet;
  part = p.part;
  early = λ bad. absurd cc;
  top = top_drawn v number found rises;
  over = λ _. record { number = number; late = over; there = once_there v.draws number found };
  claims_are = p.claims_are ∙ sym (claims_over v.plan v.draws number found over);
  room_is = p.room_is;
  few = it.room;
  fits = it.fits;
  covers = λ _. it.covers;
}

-- loads change nothing that the pass keeps
pub worker_read : (v : View) (span : Span) (claims : List ℕ) (room n : ℕ) (ended : Bool)
    → IsWorker v span claims room ended → IsWorker (read_on v n) span claims room ended
worker_read v span claims room n ended p = record {
  sound = p.sound;
  span_is = p.span_is;
  live = p.live;
  quiet = p.quiet;
  part = p.part;
  early = p.early;
  top = p.top;
  over = p.over;
  claims_are = p.claims_are;
  room_is = p.room_is;
  few = p.few;
  fits = p.fits;
  covers = p.covers;
}

-- a claim's output is there
pub output_there : (plan : Plan) (number : ℕ) → IsSound plan
    → output_of plan number < outputs_of plan
output_there plan number sound =
    mod_below (plan.from + number) (outputs_of plan)
    (let b = sound.setup.device.bounds.some_output in omega arith)

-- a quotient never falls as what is divided grows
div_mono : (a b n : ℕ) → 0 < n → a ≤ b → a / n ≤ b / n
div_mono a b n some le = let d = div-add-mod' a n in let q : ℕ = a / n in
    le-div q b n some (omega arith)

-- the tick of the last draw begins no later than that of a draw that is not below any
begun_on : (v : View) (number : ℕ) → IsSound v.plan → IsLastDraw v number → (n : ℕ)
    → All (λ d. d.number ≤ n) v.draws → begin_of v.plan number ≤ begin_of v.plan n
begun_on v number sound last n all =
    let d : Draw = draw number v.entries in
    let there = slice_get_within v.draws (length v.draws - 1) d last in
    let is : get_or v.draws (length v.draws - 1) d ≡ d =
    get_or_from_slice_get v.draws (length v.draws - 1) d d last in
    let le : number ≤ n = subst (λ (x : Draw). x.number ≤ n) is
    (all (length v.draws - 1) d there) in
    let some_out : 0 < outputs_of v.plan = (let b = sound.setup.device.bounds.some_output in
    omega arith) in
    let up = div_mono (v.plan.from + number) (v.plan.from + n) (outputs_of v.plan) some_out
    (omega (arith, le)) in omega (arith, up)

-- ---- what is remembered once the row of the last claim is read

match_ready : (A B : Type 0) (b : Bool) → b ≡ false → MatchBool b A B → B
match_ready A B b is m = subst (λ (x : Bool). MatchBool x A B) is m

match_read : (A B : Type 0) (b : Bool) → b ≡ true → A → MatchBool b A B
match_read A B b is a = subst (λ (x : Bool). MatchBool x A B) (sym is) a

-- the heads are those of all entries, and the row is that of the draw's output
pub record IsReadRow (v : View) (m x : Memory) (number : ℕ) (row : List Cell) : Type 0 where
  pub learnt : IsLearnt v x number
  pub rows : x.rows.items ≡ set m.rows.items (output_of v.plan number) row
  pub parts : x.parts.items ≡ m.parts.items
  pub rows_held : IsHeld v.entries (length v.plan.setup.device.outputs) x.row_places.items
      x.rows.items
  pub part_places : x.part_places.items ≡ m.part_places.items
  pub ready : x.ready ≡ true
  pub row_long : length row ≡ channels_of_output v.plan.setup.device (output_of v.plan number)
  pub row_is : selected v.entries (output_of v.plan number) (begin_of v.plan number) ≡ Some row

pub memory_found : (v : View) (m x : Memory) (number n : ℕ) (row : List Cell) → IsSound v.plan
    → IsMemory v m → m.ready ≡ false → IsLastDraw v number
    → number < v.plan.packets → IsReadRow v m x number row
    → n ≤ head_words * (length v.entries - length m.heads.items) + length row
    → IsMemory (read_on v n) x
memory_found v m x number n row sound memory unread last early it count =
    let o : ℕ = output_of v.plan number in
    let there = rows_there v.plan.setup.device m.rows.items o memory.rows
    (output_there v.plan number sound) in
    let few = heads_few v.entries m.heads.items memory.heads in
    let left = match_ready (HasRow v m.rows.items number) _ m.ready unread
    (memory.last number last early) in
    let all : length x.heads.items ≡ length v.entries = ap length it.learnt.heads
    ∙ length-map v.entries head_of in
    let l = it.row_long in
    let here : get_or x.rows.items o [] ≡ row =
    ap (λ (rs : List (List Cell)). get_or rs o []) it.rows
    ∙ get_or-set_same m.rows.items o row [] there.0 in record {
      room = it.learnt.room;
      heads = subst (λ (hs : List Head). Begins hs (map head_of v.entries)) (sym it.learnt.heads)
          (begins_same (map head_of v.entries));
      chains = it.learnt.chains;
      reached = begin_of v.plan number;
      passed = it.learnt.passed;
      begun = begun_on v number sound last;
      rows = subst (AllZip HasCells v.plan.setup.device.outputs) (sym it.rows)
          (rows_set v.plan.setup.device.outputs m.rows.items o row memory.rows
          (it.row_long ∙ sym there.1));
      parts = subst (AllZip HasCells v.plan.setup.device.outputs) (sym it.parts) memory.parts;
      rows_held = it.rows_held;
      parts_held = subst (λ (z : List (Option ℕ) × List (List Cell)). IsHeld v.entries
          (length v.plan.setup.device.outputs) z.0 z.1)
          (λ i. (sym it.part_places i, sym it.parts i)) memory.parts_held;
      loads = omega arith;
      last = λ k again _.
          let same : number ≡ k = one_last v number k last again in
          match_read _ _ x.ready it.ready
          (subst (λ (j : ℕ). HasRow (read_on v n) x.rows.items j) same
          (it.row_is ∙ ap Some (sym here)));
    }

-- ---- each claim has a row

no_none : (P : List Cell → Type 0) (r : Option (List Cell)) → IsSomeAnd r P → r ≡ None → ⊥
no_none P (Some row) there e = absurd cc
no_none P None there e = there

pub covered : (plan : Plan) (entries : List Entry) (number : ℕ) → IsSound plan
    → HasRowsFrom plan.setup.device entries (begin_of plan 0)
    → selected entries (output_of plan number) (begin_of plan number) ≡ None → ⊥
covered plan entries number sound covers missed =
    let some_out : 0 < outputs_of plan = (let b = sound.setup.device.bounds.some_output in
    omega arith) in
    let up = div_mono (plan.from + 0) (plan.from + number) (outputs_of plan) some_out (omega arith)
    in
    no_none _ (selected entries (output_of plan number) (begin_of plan number))
    (covers (output_of plan number) (begin_of plan number) (output_there plan number sound)
    (omega arith)) missed

-- so each frame of it has
pub covered_at : (plan : Plan) (entries : List Entry) (number f : ℕ) → IsSound plan
    → HasRowsFrom plan.setup.device entries (begin_of plan 0)
    → selected entries (output_of plan number) (frame_key (tick_of plan number) f) ≡ None → ⊥
covered_at plan entries number f sound covers missed =
    let some_out : 0 < outputs_of plan = (let b = sound.setup.device.bounds.some_output in
    omega arith) in
    let up = div_mono (plan.from + 0) (plan.from + number) (outputs_of plan) some_out (omega arith)
    in
    no_none _ (selected entries (output_of plan number) (frame_key (tick_of plan number) f))
    (covers (output_of plan number) (frame_key (tick_of plan number) f)
    (output_there plan number sound) (omega arith)) missed

-- ---- what is remembered once a row is read for a part of a packet

match_moved : (A B C : Type 0) (b : Bool) → (B → C) → MatchBool b A B → MatchBool b A C
match_moved A B C true move m = m
match_moved A B C false move m = move m

-- the heads are those of all entries, and one row for parts is another as long
pub record IsReadPart (v : View) (m x : Memory) (number o : ℕ) (row : List Cell) : Type 0 where
  pub learnt : IsLearnt v x number
  pub rows : x.rows.items ≡ m.rows.items
  pub parts : x.parts.items ≡ set m.parts.items o row
  pub row_places : x.row_places.items ≡ m.row_places.items
  pub parts_held : IsHeld v.entries (length v.plan.setup.device.outputs) x.part_places.items
      x.parts.items
  pub ready : x.ready ≡ m.ready
  pub row_long : length row ≡ channels_of_output v.plan.setup.device o

pub memory_parted : (v : View) (m x : Memory) (number o k n : ℕ) (row : List Cell) → IsSound v.plan
    → IsMemory v m → IsLastDraw v number → o < outputs_of v.plan → IsReadPart v m x number o row
    → k ≡ head_words * (length v.entries - length m.heads.items)
    → IsMemory (pieced_on (read_on v k) n) x
memory_parted v m x number o k n row sound memory last there it count =
    let few = heads_few v.entries m.heads.items memory.heads in
    let part = rows_there v.plan.setup.device m.parts.items o memory.parts there in
    let all : length x.heads.items ≡ length v.entries = ap length it.learnt.heads
    ∙ length-map v.entries head_of in
    let l = memory.loads in record {
      room = it.learnt.room;
      heads = subst (λ (hs : List Head). Begins hs (map head_of v.entries)) (sym it.learnt.heads)
          (begins_same (map head_of v.entries));
      chains = it.learnt.chains;
      reached = begin_of v.plan number;
      passed = it.learnt.passed;
      begun = begun_on v number sound last;
      rows = subst (AllZip HasCells v.plan.setup.device.outputs) (sym it.rows) memory.rows;
      parts = subst (AllZip HasCells v.plan.setup.device.outputs) (sym it.parts)
          (rows_set v.plan.setup.device.outputs m.parts.items o row memory.parts
          (it.row_long ∙ sym part.1));
      rows_held = subst (λ (z : List (Option ℕ) × List (List Cell)). IsHeld v.entries
          (length v.plan.setup.device.outputs) z.0 z.1)
          (λ i. (sym it.row_places i, sym it.rows i)) memory.rows_held;
      parts_held = it.parts_held;
      loads = omega arith;
      last = λ i is early.
          let before = memory.last i is early in
          let held = match_moved (HasRow v m.rows.items i) _
          (v.loads + k + channels_of_output v.plan.setup.device (output_of v.plan i)
          ≤ head_words * length x.heads.items + sum_by (row_words v.plan) v.draws) m.ready
          (λ left. omega arith) before in
          subst (λ (z : Bool × List (List Cell)). MatchBool z.0 (HasRow v z.1 i)
          (v.loads + k + channels_of_output v.plan.setup.device (output_of v.plan i)
          ≤ head_words * length x.heads.items + sum_by (row_words v.plan) v.draws))
          (λ j. (sym it.ready j, sym it.rows j)) held;
    }

-- loads for parts change nothing that the pass keeps
pub worker_pieced : (v : View) (span : Span) (claims : List ℕ) (room n : ℕ) (ended : Bool)
    → IsWorker v span claims room ended → IsWorker (pieced_on v n) span claims room ended
worker_pieced v span claims room n ended p = record {
  sound = p.sound;
  span_is = p.span_is;
  live = p.live;
  quiet = p.quiet;
  part = p.part;
  early = p.early;
  top = p.top;
  over = p.over;
  claims_are = p.claims_are;
  room_is = p.room_is;
  few = p.few;
  fits = p.fits;
  covers = p.covers;
}

-- ---- a new pass

no_last : (v : View) → v.draws ≡ [] → (number : ℕ) → IsLastDraw v number → ⊥
no_last v nil number last =
    let w = slice_get_within v.draws (length v.draws - 1) (draw number v.entries) last in
    let l = ap length nil in omega (arith, w, l)

-- what the parts of a new memory are
pub record IsNew (m : Memory) (rows : List (List Cell)) : Type 0 where
  pub heads : m.heads.items ≡ []
  pub room : places ≤ vec_capacity m.heads
  pub next : m.chains.next.items ≡ []
  pub links : places ≤ vec_capacity m.chains.next
  pub tracks : m.chains.tracks.items ≡ replicate (length rows) None
  pub rows_are : m.rows.items ≡ rows
  pub parts_are : m.parts.items ≡ rows
  pub row_places : m.row_places.items ≡ replicate (length rows) None
  pub part_places : m.part_places.items ≡ replicate (length rows) None

pub memory_new : (p : View) (m : Memory) (rows : List (List Cell)) → IsNew m rows
    → AllZip HasCells p.plan.setup.device.outputs rows → IsMemory (worker p) m
memory_new p m rows it all =
    let z = AllZip-long HasCells p.plan.setup.device.outputs rows all in
    let long : length rows ≡ length p.plan.setup.device.outputs = omega (arith, z) in record {
      room = it.room;
      heads = subst (λ (hs : List Head). Begins hs []) (sym it.heads) (begins_same []);
      chains = subst (λ (y : List Head × ℕ). IsChained y.0 y.1 m.chains)
          (λ i. (sym it.heads i, long i))
          (chained_new (length rows) m.chains it.next it.links it.tracks);
      reached = 0;
      passed = subst (λ (hs : List Head). HavePassed hs 0 m.chains.tracks.items) (sym it.heads)
          (passed_new (length rows) 0 m.chains it.tracks);
      begun = λ n none. omega arith;
      rows = subst (AllZip HasCells p.plan.setup.device.outputs) (sym it.rows_are) all;
      parts = subst (AllZip HasCells p.plan.setup.device.outputs) (sym it.parts_are) all;
      rows_held = subst (λ (n : ℕ). IsHeld [] n m.row_places.items m.rows.items) long
          (held_new [] (length rows) m.row_places.items m.rows.items it.row_places);
      parts_held = subst (λ (n : ℕ). IsHeld [] n m.part_places.items m.parts.items) long
          (held_new [] (length rows) m.part_places.items m.parts.items it.part_places);
      loads = omega arith;
      last = λ number last early. absurd (no_last (worker p) refl number last);
    }

pub worker_new : (p : View) (span : Span) (claims : List ℕ) (room : ℕ) → IsSound p.plan
    → IsSpan p.plan span → claims ≡ [] → p.plan.packets ≤ room
    → IsWorker (worker p) span claims room false
worker_new p span claims room sound span_is none few = record {
  sound = sound;
  span_is = span_is;
  live = refl;
  quiet = refl;
  part = refl;
  early = λ _. refl;
  top = λ number last. absurd (no_last (worker p) refl number last);
  over = λ bad. absurd cc;
  claims_are = none;
  room_is = few;
  few = omega arith;
  fits = All-nil (IsFit p.plan);
  covers = λ some. absurd (omega (arith, some));
}
