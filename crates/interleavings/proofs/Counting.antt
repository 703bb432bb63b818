-- Which claims workers drew.
use Rattle.std.proofs.Common.{◌≡◌, ℕ, ◌+◌, ◌*◌, ◌<◌, ◌≤◌, Bool, true, false, eqb, ltb, List, []}
use Rattle.std.proofs.Common.{◌∷◌, ◌++◌, length, get_or, Option, Some, None, inl, inr, refl, sym}
use Rattle.std.proofs.Common.{ap, subst, ◌∙◌, arith, length-append}
use Rattle.std.specs.Prelude.{cond, is_some, IsSomeAnd, if◌then◌else◌}
use Rattle.std.specs.Option.{option_or}
use Rattle.std.proofs.Math.Seq.{get_or-append_seam}
use Rattle.std.proofs.lemmas.Bool.{cases_Bool, cases_lt, eq-eqb, eqb-true, ne_eqb, false≢true}
use Rattle.std.proofs.lemmas.List.{append-nil, get_or_append_left}
use Rattle.std.proofs.lemmas.List.Elements.{filter_map-append}
use Rattle.list_laws.proofs.Options.{option_or-None, option_or-assoc}
use Rattle.map_entry.specs.Setup.{SetupParts}
use Rattle.interleavings.specs.declared.events.Event.{Event}
use Rattle.interleavings.specs.declared.events.Event.TheVariants.{Claim, Look, Set, Close, Call}
use Rattle.interleavings.specs.declared.events.Answer.{Answer}
use Rattle.interleavings.specs.declared.events.Answer.TheVariants.{AlreadySet, Claimed, Closed}
use Rattle.interleavings.specs.declared.events.Answer.TheVariants.{Done, Over}
use Rattle.interleavings.specs.declared.events.AnsweredEvent.{AnsweredEvent}
use Rattle.interleavings.specs.Events.{IsRun, answer_of, block_in, claims_in, drawn, drawn_by}
use Rattle.interleavings.specs.Events.{is_claim_of, is_closed, latest_of, look_answer, taken}
use Rattle.interleavings.specs.Run.{drawers, draws, worker_of}
use Rattle.interleavings.proofs.Runs.{run_by, claims_more}

pub some_same : {X : Type 0} {x y : X} → Some x ≡ Some y → x ≡ y
some_same e = cc

pub latest_more : (worker : ℕ) (before : List AnsweredEvent) (t : AnsweredEvent)
    → latest_of worker (before ++ t ∷ []) ≡ option_or (drawn_by worker t) (latest_of worker before)
latest_more worker [] t = sym (option_or-None (drawn_by worker t))
latest_more worker (b ∷ before) t =
    ap (λ (o : Option ℕ). option_or o (drawn_by worker b)) (latest_more worker before t)
    ∙ option_or-assoc (drawn_by worker t) (latest_of worker before) (drawn_by worker b)

pub drawers_more : (before : List AnsweredEvent) (t : AnsweredEvent)
    → drawers (before ++ t ∷ []) ≡ drawers before ++ drawers (t ∷ [])
drawers_more before t = filter_map-append draws before (t ∷ [])

-- an answer that draws no number
drawn_by_none : (worker : ℕ) (t : AnsweredEvent) → drawn t.answer ≡ None → drawn_by worker t ≡ None
drawn_by_none worker t none = elim (cases_Bool (is_claim_of worker t.event)) [
  | inl own ↦ rw own none
  | inr other ↦ rw other refl
]

pub latest_kept : (worker : ℕ) (before : List AnsweredEvent) (t : AnsweredEvent)
    → drawn t.answer ≡ None
    → latest_of worker (before ++ t ∷ []) ≡ latest_of worker before
latest_kept worker before t none =
    latest_more worker before t
    ∙ ap (λ (o : Option ℕ). option_or o (latest_of worker before)) (drawn_by_none worker t none)

pub claims_kept : (before : List AnsweredEvent) (t : AnsweredEvent) → drawn t.answer ≡ None
    → claims_in (before ++ t ∷ []) ≡ claims_in before
claims_kept before t none =
    let zero_more : cond {A = ℕ} (is_some (drawn t.answer)) 1 0 ≡ 0 = rw none refl in
    omega (arith, claims_more before t, zero_more)

drawers_kept : (before : List AnsweredEvent) (t : AnsweredEvent) → drawn t.answer ≡ None
    → drawers (before ++ t ∷ []) ≡ drawers before
drawers_kept before t none =
    let nothing : drawers (t ∷ []) ≡ [] = rw none refl in
    drawers_more before t ∙ ap (λ (z : List ℕ). drawers before ++ z) nothing
    ∙ append-nil (drawers before)

-- each worker's latest claim is one that it drew, and a claim is at most its worker's latest
pub record AreDrawn (events : List AnsweredEvent) : Type 0 where
  pub long : length (drawers events) ≡ claims_in events
  pub own : (worker k : ℕ) → latest_of worker events ≡ Some k
      → (k < claims_in events) × (worker_of events k ≡ worker)
  pub upto : (k : ℕ) → k < claims_in events
      → IsSomeAnd (latest_of (worker_of events k) events) (λ j. k ≤ j)

undrawn : (before : List AnsweredEvent) (t : AnsweredEvent) → drawn t.answer ≡ None
    → AreDrawn before
    → AreDrawn (before ++ t ∷ [])
undrawn before t none are =
    let d = drawers_kept before t none in
    let c = claims_kept before t none in
    let w : (k : ℕ) → worker_of (before ++ t ∷ []) k ≡ worker_of before k =
    λ k. ap (λ (z : List ℕ). get_or z k 0) d in
    record {
      long = ap length d ∙ are.long ∙ sym c;
      own = λ worker k is.
          let o = are.own worker k (sym (latest_kept worker before t none) ∙ is) in
          (omega (arith, o.0, c), w k ∙ o.1);
      upto = λ k lt. rw (w k, latest_kept (worker_of before k) before t none)
          (are.upto k (omega (arith, lt, c)));
    }

abbrev pub claimed : List AnsweredEvent → ℕ → AnsweredEvent
claimed before worker = taken (Claim worker) (Claimed (claims_in before))

pub claims_one : (before : List AnsweredEvent) (worker : ℕ)
    → claims_in (before ++ claimed before worker ∷ []) ≡ claims_in before + 1
claims_one before worker = claims_more before (claimed before worker)

pub worker_old : (before : List AnsweredEvent) (t : AnsweredEvent) (k : ℕ) → AreDrawn before
    → k < claims_in before
    → worker_of (before ++ t ∷ []) k ≡ worker_of before k
worker_old before t k are lt =
    ap (λ (z : List ℕ). get_or z k 0) (drawers_more before t)
    ∙ get_or_append_left (drawers before) (drawers (t ∷ [])) 0 k
    (omega (arith, lt, are.long))

pub worker_new : (before : List AnsweredEvent) (worker : ℕ) → AreDrawn before
    → worker_of (before ++ claimed before worker ∷ []) (claims_in before) ≡ worker
worker_new before worker are =
    ap (λ (z : List ℕ). get_or z (claims_in before) 0) (drawers_more before (claimed before worker))
    ∙ ap (λ (k : ℕ). get_or (drawers before ++ worker ∷ []) k 0) (sym are.long)
    ∙ get_or-append_seam (drawers before) worker [] 0

pub latest_new : (before : List AnsweredEvent) (worker : ℕ)
    → latest_of worker (before ++ claimed before worker ∷ []) ≡ Some (claims_in before)
latest_new before worker =
    let same : eqb worker worker ≡ true = eq-eqb worker worker refl in
    latest_more worker before (claimed before worker) ∙ rw same refl

pub latest_other : (before : List AnsweredEvent) (worker other : ℕ) → (other ≡ worker → ⊥)
    → latest_of other (before ++ claimed before worker ∷ []) ≡ latest_of other before
latest_other before worker other apart =
    let no : eqb worker other ≡ false = ne_eqb worker other (λ e. apart (sym e)) in
    latest_more other before (claimed before worker) ∙ rw no refl

drawn_more : (before : List AnsweredEvent) (worker : ℕ) → AreDrawn before
    → AreDrawn (before ++ claimed before worker ∷ [])
drawn_more before worker are =
    let t = claimed before worker in
    let n = claims_in before in
    let after : List AnsweredEvent = before ++ t ∷ [] in
    let one = claims_one before worker in
    record {
      long = ap length (drawers_more before t) ∙ length-append (drawers before) (worker ∷ [])
          ∙ omega (arith, are.long, one);
      own = λ w k is. elim (cases_Bool (eqb worker w)) [
        | inl same ↦
            let e : worker ≡ w = eqb-true worker w same in
            let k_is : n ≡ k =
            some_same
            (sym (latest_new before worker) ∙ ap (λ (x : ℕ). latest_of x after) e ∙ is) in (
              omega (arith, k_is, one),
              ap (worker_of after) (sym k_is) ∙ worker_new before worker are ∙ e,
            )
        | inr other ↦
            let apart : w ≡ worker → ⊥ = (λ e. false≢true (sym other ∙ eq-eqb worker w (sym e))) in
            let o = are.own w k (sym (latest_other before worker w apart) ∙ is) in
            (omega (arith, o.0, one), worker_old before t k are o.0 ∙ o.1)
      ];
      upto = λ k lt. elim (cases_lt k n) [
        | inl old ↦
            let same = worker_old before t k are old in
            elim (cases_Bool (eqb worker (worker_of before k))) [
              | inl own ↦
                  let e : worker ≡ worker_of before k = eqb-true worker (worker_of before k) own in
                  let late : latest_of (worker_of after k) after ≡ Some n =
                  ap (λ (x : ℕ). latest_of x after) (same ∙ sym e)
                  ∙ latest_new before worker in
                  rw late (omega (arith, old))
              | inr other ↦
                  let apart : worker_of before k ≡ worker → ⊥ =
                  (λ e. false≢true (sym other ∙ eq-eqb worker (worker_of before k) (sym e))) in
                  rw (same, latest_other before worker (worker_of before k) apart) (are.upto k old)
            ]
        | inr new ↦
            let here : k ≡ n = omega (arith, lt, one, new) in
            let late : latest_of (worker_of after k) after ≡ Some n =
            ap (λ (x : ℕ). latest_of (worker_of after x) after) here
            ∙ ap (λ (x : ℕ). latest_of x after) (worker_new before worker are)
            ∙ latest_new before worker in
            rw late (omega (arith, here))
      ];
    }

claim_drawn : (before : List AnsweredEvent) (worker : ℕ) (b : Bool) → AreDrawn before
    → AreDrawn (before ++ taken (Claim worker)
    (if b then Claimed (claims_in before) else Over) ∷ [])
claim_drawn before worker true are = drawn_more before worker are
claim_drawn before worker false are = undrawn before (taken (Claim worker) Over) refl are

pub look_undrawn : (s : SetupParts) (before : List AnsweredEvent) (input : ℕ) (o : Option ℕ)
    → drawn (look_answer s before input o) ≡ None
look_undrawn s before input None = refl
look_undrawn s before input (Some k) = refl

pub set_undrawn : (a b : Bool)
    → drawn (if a then AlreadySet else (if b then Closed else Done)) ≡ None
set_undrawn true b = refl
set_undrawn false true = refl
set_undrawn false false = refl

more_drawn : (s : SetupParts) (ticks : ℕ) (before : List AnsweredEvent) (event : Event)
    → AreDrawn before
    → AreDrawn (before ++ taken event (answer_of s ticks before event) ∷ [])
more_drawn s ticks before (Claim worker) are =
    claim_drawn before worker (ltb (claims_in before) (ticks * length s.device.outputs)) are
more_drawn s ticks before (Look worker input) are =
    undrawn before
    (taken (Look worker input) (look_answer s before input (latest_of worker before)))
    (look_undrawn s before input (latest_of worker before)) are
more_drawn s ticks before (Set input tick block) are =
    undrawn before (taken (Set input tick block) (answer_of s ticks before (Set input tick block)))
    (set_undrawn (is_some (block_in before input tick)) (is_closed before input tick)) are
more_drawn s ticks before (Close input upto) are =
    undrawn before (taken (Close input upto) Done) refl are
more_drawn s ticks before (Call client request) are =
    undrawn before
    (taken (Call client request) (answer_of s ticks before (Call client request))) refl are

none_drawn : AreDrawn []
none_drawn =
    record {
      long = refl;
      own = λ worker k is. absurd cc;
      upto = λ k lt. absurd (omega (arith, lt));
    }

pub are_drawn : (s : SetupParts) (ticks : ℕ) (events : List AnsweredEvent) → IsRun s ticks events
    → AreDrawn events
are_drawn s ticks events run =
    run_by s ticks AreDrawn none_drawn
    (λ before t so_far is are.
    subst (λ (a : Answer). AreDrawn (before ++ taken t.event a ∷ [])) (sym is)
    (more_drawn s ticks before t.event are)) events run
