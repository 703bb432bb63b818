-- What each worker saw for its latest claim, one more event at a time.
use Rattle.std.proofs.Common.{◌≡◌, ℕ, ◌+◌, ◌*◌, ◌/◌, zero-add, ◌<◌, ◌≤◌, Bool, true, false, eqb}
use Rattle.std.proofs.Common.{ltb, List, [], ◌∷◌, ◌++◌, length, get_or, map, set, Option, Some}
use Rattle.std.proofs.Common.{None, inl, inr, refl, sym, ap, subst, ◌∙◌, arith}
use Rattle.std.specs.Prelude.{◌&&◌, ◌||◌, is_some, if◌then◌else◌}
use Rattle.std.specs.List.{range_with_len}
use Rattle.std.specs.Option.{option_or, option_map_or}
use Rattle.std.proofs.lemmas.Bool.{cases_Bool, eqb-true, eq-eqb, ne_eqb, false≢true, le-ltb}
use Rattle.std.proofs.lemmas.Bool.{or_right, and_right}
use Rattle.std.proofs.Math.Nat.{div-lt_iff_lt-mul}
use Rattle.std.proofs.lemmas.List.{ext_get_or}
use Rattle.std.proofs.lemmas.List.FromFn.{get_or-map-range_with_len, length-map-range_with_len}
use Rattle.list_laws.proofs.Ranges.{map_same_below}
use Rattle.plain_book.proofs.Waiting.{HasOutputs}
use Rattle.map_entry.specs.Setup.{SetupParts}
use Rattle.plain_book.specs.Time.{tick_of_claim}
use Rattle.interleavings.specs.declared.events.Event.{Event}
use Rattle.interleavings.specs.declared.events.Event.TheVariants.{Claim, Look, Set, Close, Call}
use Rattle.interleavings.specs.declared.events.Answer.{Answer}
use Rattle.interleavings.specs.declared.events.Answer.TheVariants.{Claimed, Over, Seen}
use Rattle.interleavings.specs.declared.events.AnsweredEvent.{AnsweredEvent}
use Rattle.interleavings.specs.declared.facts.Sight.{Sight}
use Rattle.interleavings.specs.Core.{inherited, sees, sight_in}
use Rattle.interleavings.specs.Events.{IsRun, block_in, claims_in, is_closed, drawn, latest_of}
use Rattle.interleavings.specs.Events.{taken, taken_by}
use Rattle.interleavings.specs.Run.{is_for, looks, saw, seen_from, sees_by}
use Rattle.interleavings.proofs.Sights.{seen_more}
use Rattle.interleavings.proofs.Counting.{AreDrawn, are_drawn, claimed, claims_kept, claims_one}
use Rattle.interleavings.proofs.Counting.{latest_kept, latest_new, latest_other, look_undrawn}
use Rattle.interleavings.proofs.Counting.{set_undrawn}
use Rattle.interleavings.proofs.Ranging.{both, set_range}
use Rattle.interleavings.proofs.Runs.{run_by}
use Rattle.interleavings.proofs.Staying.{or_end}

abbrev the_sight : Option ℕ → List Bool → Sight
the_sight latest seen = record { latest = latest; seen = seen }

spread : (p x b a : Bool) → ((p && x) || (b && (a && p))) ≡ (p && (x || (b && (a && true))))
spread true x b a = refl
spread false x true true = refl
spread false x true false = refl
spread false x false a = refl

nothing_for : (s : SetupParts) (b a : Bool) → (false || (b && (a && false))) ≡ false
nothing_for s true true = refl
nothing_for s true false = refl
nothing_for s false a = refl

-- where the latest claim of a worker is of the tick of claim n, whether it saw an input for that
abbrev handed_on : SetupParts → ℕ → ℕ → ℕ → List AnsweredEvent → Option ℕ → Bool
handed_on s worker n input events latest =
    option_map_or
    (λ j. eqb (tick_of_claim s j) (tick_of_claim s n) && seen_from s worker j input None events)
    latest false

kept_in : (s : SetupParts) (worker n input : ℕ) (before after : List AnsweredEvent) (o : Option ℕ)
    → ((k : ℕ) → seen_from s worker k input None after ≡ seen_from s worker k input None before)
    → handed_on s worker n input before o ≡ handed_on s worker n input after o
kept_in s worker n input before after None stays = refl
kept_in s worker n input before after (Some j) stays =
    ap (λ (b : Bool). eqb (tick_of_claim s j) (tick_of_claim s n) && b) (sym (stays j))

-- ---- an event that a worker neither claims nor sees by

sees_is : (s : SetupParts) (events : List AnsweredEvent) (worker input : ℕ) (o : Option ℕ)
    → latest_of worker events ≡ o
    → sees s events worker input
    ≡ option_map_or (λ k. seen_from s worker k input None events) o false
sees_is s events worker input o is =
    ap (λ (l : Option ℕ). option_map_or (λ k. seen_from s worker k input None events) l false) is

sees_kept_by : (s : SetupParts) (before : List AnsweredEvent) (t : AnsweredEvent)
    (worker input : ℕ) (o : Option ℕ)
    → ((k : ℕ) → o ≡ Some k → sees_by s worker k input (option_or o None) t ≡ false)
    → latest_of worker before ≡ o
    → option_map_or (λ k. seen_from s worker k input None (before ++ t ∷ [])) o false
    ≡ option_map_or (λ k. seen_from s worker k input None before) o false
sees_kept_by s before t worker input None blind is = refl
sees_kept_by s before t worker input (Some k) blind is =
    seen_more s worker k input None before t
    ∙ or_end (seen_from s worker k input None before)
    (sees_by s worker k input (option_or (latest_of worker before) None) t)
    (ap (λ (l : Option ℕ). sees_by s worker k input (option_or l None) t) is ∙ blind k refl)

pub sight_kept : (s : SetupParts) (before : List AnsweredEvent) (t : AnsweredEvent) (worker : ℕ)
    → latest_of worker (before ++ t ∷ []) ≡ latest_of worker before
    → ((k input : ℕ) (o : Option ℕ) → sees_by s worker k input o t ≡ false)
    → sight_in s (before ++ t ∷ []) worker ≡ sight_in s before worker
sight_kept s before t worker latest blind =
    let after : List AnsweredEvent = before ++ t ∷ [] in
    let o = latest_of worker before in
    both the_sight latest
    (map_same_below (sees s after worker) (sees s before worker) (length s.device.inputs)
    (λ input lt. sees_is s after worker input o latest
    ∙ sees_kept_by s before t worker input o (λ k e. blind k input (option_or o None)) refl))

-- ---- a new claim of a worker sees what its claim of the same tick saw

quotient_grows : (a b n : ℕ) → 0 < n → a ≤ b → a / n ≤ b / n
quotient_grows a b n some le =
    let high : b < (b / n + 1) * n =
    (div-lt_iff_lt-mul {x = b} {y = b / n + 1} some).0 (omega arith) in
    let low : a / n < b / n + 1 =
    (div-lt_iff_lt-mul {x = a} {y = b / n + 1} some).1 (omega (arith, high, le)) in
    omega (arith, low)

tick_grows : (s : SetupParts) (a b : ℕ) → 0 < length s.device.outputs → a ≤ b
    → tick_of_claim s a ≤ tick_of_claim s b
tick_grows s a b some le = omega (arith, quotient_grows a b (length s.device.outputs) some le)

abbrev AreInherited : SetupParts → List AnsweredEvent → Type 0
AreInherited s events =
    (worker n input : ℕ) → claims_in events ≤ n
    → seen_from s worker n input None events
    ≡ handed_on s worker n input events (latest_of worker events)

-- an event by which a worker sees nothing and claims nothing
inherited_kept : (s : SetupParts) (before : List AnsweredEvent) (t : AnsweredEvent)
    (worker n input : ℕ)
    (o : Option ℕ) → latest_of worker before ≡ o
    → latest_of worker (before ++ t ∷ []) ≡ o
    → ((k : ℕ) (l : Option ℕ) → sees_by s worker k input l t ≡ false)
    → seen_from s worker n input None before ≡ handed_on s worker n input before o
    → seen_from s worker n input None (before ++ t ∷ [])
    ≡ handed_on s worker n input (before ++ t ∷ []) o
inherited_kept s before t worker n input o is same blind so_far =
    let stays : (k : ℕ) → seen_from s worker k input None (before ++ t ∷ [])
    ≡ seen_from s worker k input None before =
    λ k. seen_more s worker k input None before t ∙ or_end (seen_from s worker k input None before)
    (sees_by s worker k input (option_or (latest_of worker before) None) t)
    (blind k (option_or (latest_of worker before) None)) in
    stays n ∙ so_far ∙ kept_in s worker n input before (before ++ t ∷ []) o stays

-- the worker claims
squeezed : (a b c : ℕ) (x : Bool) → a ≤ b → b ≤ c → (eqb a c && x) ≡ (eqb b c && (eqb a b && x))
squeezed a b c x low high = elim (cases_Bool (eqb a c)) [
  | inl same ↦
      let e : a ≡ c = eqb-true a c same in
      let one : eqb b c ≡ true = eq-eqb b c (omega (arith, e, low, high)) in
      let two : eqb a b ≡ true = eq-eqb a b (omega (arith, e, low, high)) in
      rw (same, one, two) refl
  | inr other ↦ elim (cases_Bool (eqb b c)) [
    | inl on ↦
        let e : b ≡ c = eqb-true b c on in
        let off : eqb a b ≡ false = ne_eqb a b (λ x. false≢true (sym other ∙ eq-eqb a c (x ∙ e))) in
        rw (other, on, off) refl
    | inr off ↦ rw (other, off) refl
  ]
]

own_claim : (s : SetupParts) (before : List AnsweredEvent) (worker n input : ℕ) (o : Option ℕ)
    → HasOutputs s → AreDrawn before
    → latest_of worker before ≡ o → claims_in before ≤ n
    → handed_on s worker n input before o
    ≡ (eqb (tick_of_claim s (claims_in before)) (tick_of_claim s n)
    && handed_on s worker (claims_in before) input before o)
own_claim s before worker n input None some are is le =
    sym (and_right (eqb (tick_of_claim s (claims_in before)) (tick_of_claim s n)) false refl)
own_claim s before worker n input (Some j) some are is le =
    let m = claims_in before in
    let low = are.own worker j is in
    squeezed (tick_of_claim s j) (tick_of_claim s m) (tick_of_claim s n)
    (seen_from s worker j input None before)
    (tick_grows s j m some (let w = low.0 in omega (arith, w))) (tick_grows s m n some le)

-- a look of the worker
own_look : (s : SetupParts) (worker n j : ℕ) (x seen : Bool) (a b : Bool) → j < n
    → ((eqb (tick_of_claim s j) (tick_of_claim s n) && x) || (b && (a && is_for s n (Some j))))
    ≡ (eqb (tick_of_claim s j) (tick_of_claim s n) && (x || (b && (a && is_for s j (Some j)))))
own_look s worker n j x seen a b lt =
    let blind : ltb n j ≡ false = le-ltb n j (omega (arith, lt)) in
    let same : ltb j j ≡ false = le-ltb j j (omega arith) in
    let on : eqb (tick_of_claim s j) (tick_of_claim s j) ≡ true =
    eq-eqb (tick_of_claim s j) (tick_of_claim s j) refl in
    rw (blind, same, on) (spread (eqb (tick_of_claim s j) (tick_of_claim s n)) x b a)

inherited_look : (s : SetupParts) (before : List AnsweredEvent) (t : AnsweredEvent)
    (worker n input : ℕ)
    (o : Option ℕ) → AreDrawn before → claims_in before ≤ n
    → latest_of worker before ≡ o → latest_of worker (before ++ t ∷ []) ≡ o
    → seen_from s worker n input None before ≡ handed_on s worker n input before o
    → seen_from s worker n input None (before ++ t ∷ [])
    ≡ handed_on s worker n input (before ++ t ∷ []) o
inherited_look s before t worker n input None are le is same so_far =
    seen_more s worker n input None before t
    ∙ ap (λ (l : Option ℕ). seen_from s worker n input None before || sees_by s worker n input
    (option_or l None) t) is
    ∙ ap (λ (b : Bool). b || sees_by s worker n input None t) so_far
    ∙ nothing_for s (looks worker input t.event) (saw t.answer)
inherited_look s before t worker n input (Some j) are le is same so_far =
    let low = are.own worker j is in
    seen_more s worker n input None before t
    ∙ ap (λ (l : Option ℕ). seen_from s worker n input None before || sees_by s worker n input
    (option_or l None) t) is
    ∙ ap (λ (b : Bool). b || sees_by s worker n input (Some j) t) so_far
    ∙ own_look s worker n j (seen_from s worker j input None before) false (saw t.answer)
    (looks worker input t.event)
    (let w = low.0 in omega (arith, w, le))
    ∙ ap (λ (b : Bool). eqb (tick_of_claim s j) (tick_of_claim s n) && b)
    (sym (seen_more s worker j input None before t ∙ ap
    (λ (l : Option ℕ). seen_from s worker j input None before || sees_by s worker j input
    (option_or l None) t) is))

inherited_claim : (s : SetupParts) (before : List AnsweredEvent) (worker : ℕ) → HasOutputs s
    → AreDrawn before → AreInherited s before
    → AreInherited s (before ++ claimed before worker ∷ [])
inherited_claim s before worker some are so_far w n input le =
    let t = claimed before worker in
    let m = claims_in before in
    let one = claims_one before worker in
    elim (cases_Bool (eqb worker w)) [
      | inl own ↦
          let e : worker ≡ w = eqb-true worker w own in
          let latest : latest_of w (before ++ t ∷ []) ≡ Some m =
          ap (λ (x : ℕ). latest_of x (before ++ t ∷ [])) (sym e)
          ∙ latest_new before worker in
          let stays : (k : ℕ) → seen_from s w k input None (before ++ t ∷ [])
          ≡ seen_from s w k input None before =
          λ k. seen_more s w k input None before t ∙ or_end (seen_from s w k input None before)
          (sees_by s w k input (option_or (latest_of w before) None) t) refl in
          stays n ∙ so_far w n input (omega (arith, le, one))
          ∙ own_claim s before w n input (latest_of w before) some are refl (omega (arith, le, one))
          ∙ ap (λ (b : Bool). eqb (tick_of_claim s m) (tick_of_claim s n) && b)
          (sym (stays m ∙ so_far w m input (omega arith)))
          ∙ sym (ap (handed_on s w n input (before ++ t ∷ [])) latest)
      | inr other ↦
          let apart : w ≡ worker → ⊥ = (λ e. false≢true (sym other ∙ eq-eqb worker w (sym e))) in
          let latest = latest_other before worker w apart in
          inherited_kept s before t w n input (latest_of w before) refl latest (λ k l. refl)
          (so_far w n input (omega (arith, le, one)))
          ∙ sym (ap (handed_on s w n input (before ++ t ∷ [])) latest)
    ]

-- an event by which nothing is drawn
inherited_quiet : (s : SetupParts) (before : List AnsweredEvent) (t : AnsweredEvent)
    → drawn t.answer ≡ None
    → AreDrawn before → AreInherited s before
    → AreInherited s (before ++ t ∷ [])
inherited_quiet s before t none are so_far w n input le =
    let latest = latest_kept w before t none in
    let c = claims_kept before t none in
    inherited_look s before t w n input (latest_of w before) are (omega (arith, le, c)) refl latest
    (so_far w n input (omega (arith, le, c)))
    ∙ sym (ap (handed_on s w n input (before ++ t ∷ [])) latest)

by_answer : (s : SetupParts) (before : List AnsweredEvent) (worker : ℕ) (b : Bool) → HasOutputs s
    → AreDrawn before → AreInherited s before
    → AreInherited s
    (before ++ taken (Claim worker) (if b then Claimed (claims_in before) else Over) ∷ [])
by_answer s before worker true some are so_far = inherited_claim s before worker some are so_far
by_answer s before worker false some are so_far =
    inherited_quiet s before (taken (Claim worker) Over) refl are so_far

more_inherited : (s : SetupParts) (ticks : ℕ) (before : List AnsweredEvent) (event : Event)
    → HasOutputs s
    → AreDrawn before → AreInherited s before
    → AreInherited s (before ++ taken_by s ticks before event ∷ [])
more_inherited s ticks before (Claim worker) some are so_far =
    by_answer s before worker
    (ltb (claims_in before) (ticks * length s.device.outputs)) some are so_far
more_inherited s ticks before (Look worker input) some are so_far =
    inherited_quiet s before (taken_by s ticks before (Look worker input))
    (look_undrawn s before input (latest_of worker before)) are so_far
more_inherited s ticks before (Set input tick block) some are so_far =
    inherited_quiet s before (taken_by s ticks before (Set input tick block))
    (set_undrawn (is_some (block_in before input tick)) (is_closed before input tick)) are so_far
more_inherited s ticks before (Close input upto) some are so_far =
    inherited_quiet s before (taken_by s ticks before (Close input upto)) refl are so_far
more_inherited s ticks before (Call client request) some are so_far =
    inherited_quiet s before (taken_by s ticks before (Call client request)) refl are so_far

pub inherits : (s : SetupParts) (ticks : ℕ) (events : List AnsweredEvent) → HasOutputs s
    → IsRun s ticks events → AreInherited s events
inherits s ticks events some run =
    run_by s ticks (AreInherited s) (λ worker n input le. refl)
    (λ before t so_far is are.
    subst (λ (a : Answer). AreInherited s (before ++ taken t.event a ∷ [])) (sym is)
    (more_inherited s ticks before t.event some (are_drawn s ticks before so_far) are)) events run

-- ---- the sights after an event

-- the sight of a worker that claims
inherited_by : (s : SetupParts) (before : List AnsweredEvent) (worker k : ℕ) (o : Option ℕ)
    (input : ℕ)
    → input < length s.device.inputs
    → handed_on s worker k input before o
    ≡ get_or (inherited s o
    (map (λ i. option_map_or (λ j. seen_from s worker j i None before) o false)
    (range_with_len 0 (length s.device.inputs))) k)
    input false
inherited_by s before worker k None input lt =
    sym (get_or-map-range_with_len (λ (i : ℕ). false) 0 (length s.device.inputs) input input false
    lt (zero-add input))
inherited_by s before worker k (Some j) input lt =
    elim (cases_Bool (eqb (tick_of_claim s j) (tick_of_claim s k))) [
      | inl same ↦ rw same (sym
          (get_or-map-range_with_len (λ (i : ℕ). seen_from s worker j i None before) 0
          (length s.device.inputs) input input false lt (zero-add input)))
      | inr other ↦
          rw other (sym
          (get_or-map-range_with_len (λ (i : ℕ). false) 0 (length s.device.inputs)
          input input false lt
          (zero-add input)))
    ]

length-inherited : (s : SetupParts) (o : Option ℕ) (f : ℕ → Bool) (k : ℕ)
    → length (inherited s o (map f (range_with_len 0 (length s.device.inputs))) k)
    ≡ length s.device.inputs
length-inherited s None f k =
    length-map-range_with_len (λ (i : ℕ). false) 0 (length s.device.inputs)
length-inherited s (Some j) f k = elim (cases_Bool (eqb (tick_of_claim s j) (tick_of_claim s k))) [
  | inl same ↦ rw same (length-map-range_with_len f 0 (length s.device.inputs))
  | inr other ↦ rw other (length-map-range_with_len (λ (i : ℕ). false) 0 (length s.device.inputs))
]

pub claim_sees : (s : SetupParts) (ticks : ℕ) (before : List AnsweredEvent) (worker : ℕ)
    → HasOutputs s
    → IsRun s ticks before
    → inherited s (sight_in s before worker).latest (sight_in s before worker).seen
    (claims_in before) ≡ map
    (sees s (before ++ claimed before worker ∷ []) worker)
    (range_with_len 0 (length s.device.inputs))
claim_sees s ticks before worker some run =
    let t = claimed before worker in
    let after : List AnsweredEvent = before ++ t ∷ [] in
    let n = length s.device.inputs in
    let k = claims_in before in
    let o = latest_of worker before in
    ext_get_or false (inherited s o (map (sees s before worker) (range_with_len 0 n)) k)
    (map (sees s after worker) (range_with_len 0 n))
    (length-inherited s o (sees s before worker) k
    ∙ sym (length-map-range_with_len (sees s after worker) 0 n))
    (λ input within.
    let lt : input < n = omega (arith, within, length-inherited s o (sees s before worker) k) in
    sym (get_or-map-range_with_len (sees s after worker) 0 n input input false lt (zero-add input)
    ∙ sees_is s after worker input (Some k) (latest_new before worker)
    ∙ seen_more s worker k input None before t
    ∙ or_end (seen_from s worker k input None before)
    (sees_by s worker k input (option_or (latest_of worker before) None) t) refl
    ∙ inherits s ticks before some run worker k input (omega arith)
    ∙ inherited_by s before worker k o input lt))

-- the sight of a worker that looks and sees
pub look_sees : (s : SetupParts) (before : List AnsweredEvent) (worker at j : ℕ)
    → latest_of worker before ≡ Some j → at < length s.device.inputs
    → set (sight_in s before worker).seen at true
    ≡ map (sees s (before ++ taken (Look worker at) (Seen true) ∷ []) worker)
    (range_with_len 0 (length s.device.inputs))
look_sees s before worker at j is lt =
    let t : AnsweredEvent = taken (Look worker at) (Seen true) in
    let after : List AnsweredEvent = before ++ t ∷ [] in
    let latest : latest_of worker after ≡ Some j = latest_kept worker before t refl ∙ is in
    let new : (input : ℕ) → sees s after worker input
    ≡ (sees s before worker input || sees_by s worker j input (Some j) t) =
    λ input. sees_is s after worker input (Some j) latest ∙ seen_more s worker j input None before t
    ∙ ap (λ (l : Option ℕ). seen_from s worker j input None before || sees_by s worker j input
    (option_or l None) t) is
    ∙ ap (λ (b : Bool). b || sees_by s worker j input (Some j) t)
    (sym (sees_is s before worker input (Some j) is)) in
    let blind : ltb j j ≡ false = le-ltb j j (omega arith) in
    let on : eqb (tick_of_claim s j) (tick_of_claim s j) ≡ true =
    eq-eqb (tick_of_claim s j) (tick_of_claim s j) refl in
    let own : eqb worker worker ≡ true = eq-eqb worker worker refl in
    let here : eqb at at ≡ true = eq-eqb at at refl in
    set_range (sees s before worker) (sees s after worker) (length s.device.inputs) at true lt
    (sym (new at ∙ rw (own, here, blind, on) (or_right (sees s before worker at) true refl)))
    (λ input within other.
    let off : eqb at input ≡ false = ne_eqb at input (λ e. other (sym e)) in
    sym (new input ∙ rw (own, off) (or_end (sees s before worker input) false refl)))
