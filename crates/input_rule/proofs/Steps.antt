-- Each kind of step keeps the rule.
use Rattle.std.proofs.Common.{◌≡◌, ◌≢◌, ℕ, zero, suc, ◌+◌, ◌-◌, ◌*◌, ◌/◌, ◌%◌, ◌^◌, ◌<◌, ◌≤◌, ◌==◌}
use Rattle.std.proofs.Common.{true}
use Rattle.std.proofs.Common.{false, List, [], ◌∷◌, get_or, set, replicate, refl, sym, ap, ◌∙◌}
use Rattle.std.proofs.Common.{subst, ⊎_elim, arith, le_refl, true≢false}
use Rattle.std.proofs.lemmas.Bool.Decides.{nat_tests}
use Rattle.std.proofs.lemmas.List.{length-replicate, set-get_or}
use Rattle.std.proofs.lemmas.List.Elements.{All-nil, All-push, All-append, All-weaker, All-contains}
use Rattle.std.proofs.lemmas.Nat.{div-mul-add, mod-mul-add}
use Rattle.std.specs.List.{All, Contains}
use mathlib.Core.Option.{none, some, some-injective, some-ne-none}
use lib.ListN.{get_elem?}
use Rattle.atomic_table.specs.Table.{State, Me, step, keeps, stepped, Allows, Splits, Joins}
use Rattle.atomic_table.specs.Table.{opening}
use Rattle.atomic_table.proofs.Lists.{at_snoc, set_else}
use Rattle.input_rule.specs.declared.view.Shape.{Shape}
use Rattle.input_rule.specs.declared.view.View.{View}
use Rattle.input_rule.specs.declared.view.Look.{Look}
use Rattle.input_rule.specs.declared.view.HeardSample.{HeardSample}
use Rattle.input_rule.specs.Words.{AreWords, HasTick, IsPresent, block_len, closing, first_words}
use Rattle.input_rule.specs.Words.{place_in_block, presence, sample_at, sample_of, sample_word}
use Rattle.input_rule.specs.Words.{word_in_block}
use Rattle.input_rule.specs.Views.{HasSeen, HasMissed, closed_of, feeder, last_of, listened, looked}
use Rattle.input_rule.specs.Views.{reader, saw, spent, taken_in, wrote}
use Rattle.input_rule.specs.Rule.{Fits, Holds, IsHeard, IsLook, Keeps}
use Rattle.input_rule.specs.Plays.{hears, learns, looks, presence_tick, sample_place, sample_tick}
use Rattle.input_rule.specs.Plays.{sees, writes}
use Rattle.input_rule.specs.StepsKeep.{StoresSample, StoresPresence, StoresClosing}
use Rattle.list_laws.proofs.Items.{set_keeps}
use Rattle.input_rule.proofs.Planes.{place_back, word_below}
use Rattle.input_rule.proofs.Later.{MayStore, heard_stays, later_then, look_stays}
use Rattle.input_rule.proofs.Later.{may_store_closing, may_store_presence, may_store_sample}

-- the table, with what each seat knows
abbrev St : Type 0
St = State ℕ View

-- the seat that steps
abbrev M : Type 0
M = Me ℕ View

-- a step that changes no word
unmoved : (shape : Shape) (s : St) (words : List ℕ) (keeper : ℕ) (h : Holds shape s words keeper)
    (i me : ℕ) (cs : List (ℕ × ℕ)) (w : View)
    → Fits shape words keeper me w
    → Holds shape (stepped s i (get_or s.words i 0) me cs w keeps) words keeper
unmoved shape s words keeper h i me cs w fits =
    record {
      words_are = set-get_or s.words i 0 ∙ h.words_are;
      shown = h.shown;
      seats = set_keeps (Fits shape words keeper) s.views me w fits (λ j u _ e. h.seats j u e);
    }

-- the last of the numbers seen is one of them, or 0
last_within : (bound : ℕ) (xs : List ℕ) → All (λ x. x ≤ bound) xs → last_of xs ≤ bound
last_within bound [] h = omega arith
last_within bound (x ∷ []) h = h 0 0 (omega arith)
last_within bound (x ∷ y ∷ ys) h = last_within bound (y ∷ ys) (λ k d lt. h (suc k) d (omega arith))

-- a reader's look
pub looks_allowed : (shape : Shape) (slots id : ℕ) (m : M) (i tick : ℕ) → m.0.live ≡ true
    → HasTick m.0.shape tick → i ≡ presence m.0.shape tick
    → Allows (Keeps shape) slots id m i (λ n. n) (looks (step slots i 0 0 none) m)
looks_allowed shape slots id m i tick live inside place s kept _ at _ =
    let words : List ℕ = kept.0 in let keeper : ℕ = kept.1 in let h = kept.2 in
    let f : Fits shape words keeper id m.0 = h.seats id m.0 at in
    let z : Shape = m.0.shape in let same : z ≡ shape = f.bound live in
    let r : ℕ = get_or s.words i 0 in
    let back : presence_tick z i ≡ tick = (let a = inside.0 in omega arith) in
    let t : ℕ = presence_tick z i in
    let within : HasTick shape t =
    subst (λ (x : Shape × ℕ). HasTick x.0 x.1) (λ k. (same k, sym back k)) inside in
    let is : get_or words (presence shape t) 0 ≡ r =
    ap (λ (n : ℕ). get_or words n 0) ((λ k. presence (sym same k) (back k)) ∙ sym place)
    ∙ ap (λ (ws : List ℕ). get_or ws i 0) (sym h.words_are) in
    let bit : r ≤ 1 = let b = h.shown.presence t within in omega arith in
    let again : HasSeen m.0 t → r ≡ 1 = λ seen. sym is
    ∙ (ap (λ (n : ℕ). get_or words (presence shape n) 0) (sym seen.tick_is)
    ∙ (All-contains (IsLook shape words) m.0.looks seen.look f.looks seen.among).seen seen.saw_it)
    in
    let never : HasMissed m.0 t → r ≡ 0 = λ gone. sym is
    ∙ (ap (λ (n : ℕ). get_or words (presence shape n) 0) (sym gone.tick_is)
    ∙ (All-contains (IsLook shape words) m.0.looks gone.look f.looks gone.among).missed
    gone.missed_it (let e = gone.tick_is in let l = gone.late in
    omega arith)) in
    let w : View = looked m.0 t (r == 1) in
    let l : Look = record { input = z.input; tick = t; present = r == 1; closed = closed_of m.0 } in
    let fits : Fits shape words keeper id w = record {
      bound = f.bound;
      feeder = f.feeder;
      closings = f.closings;
      looks = All-push (IsLook shape words) m.0.looks l f.looks (record {
        input = ap (λ (x : Shape). x.input) same;
        inside = within;
        seen = λ yes. is ∙ grind (arith, nat_tests);
        missed = λ not early. is ∙ grind (arith, nat_tests);
        closed = last_within (closing words) m.0.closings f.closings;
      });
      heard = f.heard;
    } in (
      w,
      keeps,
      tt,
      (words, keeper, unmoved shape s words keeper h i id m.1 w fits),
      (refl, again, never),
    )

-- a reader sees the closing number
pub sees_allowed : (shape : Shape) (slots id : ℕ) (m : M) → m.0.live ≡ true
    → Allows (Keeps shape) slots id m 0 (λ n. n) (sees (step slots 0 0 0 none) m)
sees_allowed shape slots id m live s kept _ at _ =
    let words : List ℕ = kept.0 in let keeper : ℕ = kept.1 in let h = kept.2 in
    let f : Fits shape words keeper id m.0 = h.seats id m.0 at in
    let r : ℕ = get_or s.words 0 0 in let is : r ≡ closing words =
    ap (λ (ws : List ℕ). get_or ws 0 0) h.words_are in
    let w : View = saw m.0 r in
    let fits : Fits shape words keeper id w = record {
      bound = f.bound;
      feeder = f.feeder;
      closings = All-push (λ number. number ≤ closing words) m.0.closings r f.closings
          (omega arith);
      looks = f.looks;
      heard = f.heard;
    } in
    let rises : closed_of m.0 ≤ r = (let c = last_within (closing words) m.0.closings f.closings in
    omega arith) in
    let begun : m.0.shape.from ≤ r =
    (let b = h.shown.begun in let e = ap (λ (z : Shape). z.from) (f.bound live) in omega arith)
    in (
      w,
      keeps,
      tt,
      (words, keeper, unmoved shape s words keeper h 0 id m.1 w fits),
      (refl, rises, begun),
    )

-- a reader reads a sample of a block that it has seen
pub hears_allowed : (shape : Shape) (slots id : ℕ) (m : M) (i tick place : ℕ) → m.0.live ≡ true
    → HasTick m.0.shape tick
    → place < block_len m.0.shape → i ≡ sample_word m.0.shape tick place → HasSeen m.0 tick
    → Allows (Keeps shape) slots id m i (λ n. n) (hears (step slots i 0 0 none) m)
hears_allowed shape slots id m i tick place live inside below at_word seen s kept _ at _ =
    let words : List ℕ = kept.0 in let keeper : ℕ = kept.1 in let h = kept.2 in
    let f : Fits shape words keeper id m.0 = h.seats id m.0 at in
    let z : Shape = m.0.shape in let same : z ≡ shape = f.bound live in
    let r : ℕ = get_or s.words i 0 in
    let row : ℕ = (tick - z.from) * block_len z in
    let w_in : ℕ = word_in_block z place in
    let w_below : w_in < block_len z = word_below z place below in
    let offset : i - (1 + z.ticks) ≡ row + w_in = omega arith in
    let t : ℕ = sample_tick z i in let p : ℕ = sample_place z i in
    let back : t ≡ tick =
    (let e : (i - (1 + z.ticks)) / block_len z ≡ tick - z.from =
    ap (λ (n : ℕ). n / block_len z) offset
    ∙ div-mul-add (tick - z.from) (block_len z) w_in w_below in let a = inside.0 in
    omega arith) in
    let here : p ≡ place =
    ap (λ (n : ℕ). place_in_block z n)
    (ap (λ (n : ℕ). n % block_len z) offset
    ∙ mod-mul-add (tick - z.from) (block_len z) w_in w_below)
    ∙ place_back z place below in
    let within : HasTick shape t =
    subst (λ (x : Shape × ℕ). HasTick x.0 x.1) (λ k. (same k, sym back k)) inside in
    let beneath : p < block_len shape =
    subst (λ (x : Shape × ℕ). x.1 < block_len x.0) (λ k. (same k, sym here k)) below in
    let word : sample_word shape t p ≡ i = (λ k. sample_word (sym same k) (back k) (here k))
    ∙ sym at_word in
    let is : get_or words (sample_word shape t p) 0 ≡ r = ap (λ (n : ℕ). get_or words n 0) word
    ∙ ap (λ (ws : List ℕ). get_or ws i 0) (sym h.words_are) in
    let there : IsPresent shape words t =
    ap (λ (n : ℕ). get_or words (presence shape n) 0) (back ∙ sym seen.tick_is)
    ∙ (All-contains (IsLook shape words) m.0.looks seen.look f.looks seen.among).seen seen.saw_it in
    let small : r < 2 ^ 32 = (let q : ℕ = (t - shape.from) * block_len shape in
    let v : ℕ = word_in_block shape p in let b = h.shown.spelt (sample_word shape t p) (omega arith) in
    omega arith) in
    let again : (d : HeardSample) → Contains m.0.heard d → d.tick ≡ t → d.place ≡ p
    → d.value ≡ sample_of r = λ d among its_tick its_place.
    let o = All-contains (IsHeard shape words) m.0.heard d f.heard among in
    sym o.value ∙ ((λ k. sample_at shape words (its_tick k) (its_place k)) ∙ ap sample_of is) in
    let w : View = listened m.0 t p (sample_of r) in
    let d : HeardSample = record { input = z.input; tick = t; place = p; value = sample_of r } in
    let fits : Fits shape words keeper id w = record {
      bound = f.bound;
      feeder = f.feeder;
      closings = f.closings;
      looks = f.looks;
      heard = All-push (IsHeard shape words) m.0.heard d f.heard
          (record {
            input = ap (λ (x : Shape). x.input) same;
            inside = within;
            below = beneath;
            there = there;
            value = ap sample_of is;
          });
    } in (
      w,
      keeps,
      tt,
      (words, keeper, unmoved shape s words keeper h i id m.1 w fits),
      (refl, small, again),
    )

closings_stay : (before after : List ℕ) → closing before ≤ closing after → (v : View)
    → All (λ number. number ≤ closing before) v.closings
    → All (λ number. number ≤ closing after) v.closings
closings_stay before after rises v h =
    All-weaker (λ number. number ≤ closing before) (λ number. number ≤ closing after)
    (λ number low. omega arith) v.closings h

-- the feeder stores a word that takes nothing from what is shown
pub writes_allowed : (shape : Shape) (slots id : ℕ) (m : M) (i x : ℕ) → m.0.live ≡ true
    → m.0.feeds ≡ true → MayStore m.0.shape m.0.words i x
    → Allows (Keeps shape) slots id m i (λ _. x) (λ _. writes (step slots i x 0 none) m x)
writes_allowed shape slots id m i x live feeds may_there s kept _ at _ =
    let words : List ℕ = kept.0 in let keeper : ℕ = kept.1 in let h = kept.2 in
    let f : Fits shape words keeper id m.0 = h.seats id m.0 at in
    let mine = f.feeder feeds in
    let may : MayStore shape words i x =
    subst (λ (z : Shape × List ℕ). MayStore z.0 z.1 i x) (λ k. (f.bound live k, mine.1 k))
    may_there in
    let w : View = wrote m.0 i x in let after : List ℕ = set words i x in
    let rises = may.later.rises in
    let fits : Fits shape after keeper id w = record {
      bound = f.bound;
      feeder = λ _. (mine.0, λ k. set (mine.1 k) i x);
      closings = closings_stay words after rises m.0 f.closings;
      looks = All-weaker (IsLook shape words) (IsLook shape after)
          (look_stays shape words after may.later) m.0.looks f.looks;
      heard = All-weaker (IsHeard shape words) (IsHeard shape after)
          (heard_stays shape words after may.later) m.0.heard f.heard;
    } in
    let others : (j : ℕ) (u : View) → j ≢ id → get_elem? s.views j ≡ some u
    → Fits shape after keeper j u = λ j u apart e. let o =
    h.seats j u e in record {
      bound = o.bound;
      feeder = λ l. absurd (apart ((o.feeder l).0 ∙ sym mine.0));
      closings = closings_stay words after rises u o.closings;
      looks = All-weaker (IsLook shape words) (IsLook shape after)
          (look_stays shape words after may.later) u.looks o.looks;
      heard = All-weaker (IsHeard shape words) (IsHeard shape after)
          (heard_stays shape words after may.later) u.heard o.heard;
    } in (
      w,
      keeps,
      tt,
      (
        after,
        keeper,
        record {
          words_are = ap (λ (ws : List ℕ). set ws i x) h.words_are;
          shown = may.shown;
          seats = set_keeps (Fits shape after keeper) s.views id w fits others;
        },
      ),
      refl,
    )

-- the feeder learns that what it took in is true of its words
pub learns_allowed : (shape : Shape) (slots id : ℕ) (m : M) (i : ℕ) → m.0.live ≡ true
    → m.0.feeds ≡ true
    → Allows (Keeps shape) slots id m i (λ n. n) (learns (step slots i 0 0 none) m)
learns_allowed shape slots id m i live feeds s kept _ at _ =
    let words : List ℕ = kept.0 in let keeper : ℕ = kept.1 in let h = kept.2 in
    let f : Fits shape words keeper id m.0 = h.seats id m.0 at in
    let mine = (f.feeder feeds).1 in
    let looks : All (IsLook m.0.shape m.0.words) m.0.looks =
    subst (λ (z : Shape × List ℕ). All (IsLook z.0 z.1) m.0.looks)
    (λ k. (sym (f.bound live) k, sym mine k)) f.looks in
    let heard : All (IsHeard m.0.shape m.0.words) m.0.heard =
    subst (λ (z : Shape × List ℕ). All (IsHeard z.0 z.1) m.0.heard)
    (λ k. (sym (f.bound live) k, sym mine k)) f.heard in (
      m.0,
      keeps,
      tt,
      (words, keeper, unmoved shape s words keeper h i id m.1 m.0 f),
      (refl, looks, heard),
    )

-- a seat that knows nothing
knows_nothing : (shape : Shape) (words : List ℕ) (keeper seat : ℕ) (v : View)
    → (v.live ≡ true → v.shape ≡ shape) → v.feeds ≡ false
    → v.closings ≡ [] → v.looks ≡ [] → v.heard ≡ [] → Fits shape words keeper seat v
knows_nothing shape words keeper seat v bound idle closings looks heard = record {
  bound = bound;
  feeder = λ bad. absurd (true≢false (sym bad ∙ idle));
  closings = subst (All (λ number. number ≤ closing words)) (sym closings)
      (All-nil (λ number. number ≤ closing words));
  looks = subst (All (IsLook shape words)) (sym looks) (All-nil (IsLook shape words));
  heard = subst (All (IsHeard shape words)) (sym heard) (All-nil (IsHeard shape words));
}

-- a reader's pass is made
pub hands_allowed : (shape : Shape) (id : ℕ) (v : View) → v.live ≡ true
    → Splits (Keeps shape) id v v (reader v)
hands_allowed shape id v live s kept at =
    let words : List ℕ = kept.0 in let keeper : ℕ = kept.1 in let h = kept.2 in
    let f : Fits shape words keeper id v = h.seats id v at in
    let new : (j : ℕ) → Fits shape words keeper j (reader v) =
    λ j. knows_nothing shape words keeper j (reader v) (λ _. f.bound live) refl refl refl refl in (
      words,
      keeper,
      record {
        words_are = h.words_are;
        shown = h.shown;
        seats = λ j u e.
            ⊎_elim (set_keeps (Fits shape words keeper) s.views id v f (λ j u _ e. h.seats j u e) j
            u)
            (λ (t : reader v ≡ u). subst (Fits shape words keeper j) t (new j))
            (at_snoc (set s.views id v) (reader v) u j e);
      },
    )

-- a list of zeros has only these
zero_from : (n k : ℕ) → get_or (replicate {A = ℕ} n 0) k 0 ≡ 0
zero_from zero k = refl
zero_from (suc n) zero = refl
zero_from (suc n) (suc k) = zero_from n k

suc_pred : (k : ℕ) → 0 < k → k ≡ suc (k - 1)
suc_pred k some_k = omega arith

-- the one seat at the start
first_seat : (shape : Shape) (seat : ℕ) (v : View)
    → get_elem? (feeder shape (first_words shape) ∷ []) seat ≡ some v
    → Fits shape (first_words shape) 0 seat v
first_seat shape zero v e = subst (Fits shape (first_words shape) 0 0) (some-injective _ _ e)
    (record {
      bound = λ _. refl;
      feeder = λ _. (refl, refl);
      closings = All-nil (λ number. number ≤ closing (first_words shape));
      looks = All-nil (IsLook shape (first_words shape));
      heard = All-nil (IsHeard shape (first_words shape));
    })
first_seat shape (suc seat) v e = absurd (some-ne-none v (sym e))

-- a pass is taken in, and nothing is left of it
pub takes_in_allowed : (shape : Shape) (id : ℕ) (v : View) (other : ℕ) (w : View)
    → Joins (Keeps shape) id v other w (taken_in v w) spent
takes_in_allowed shape id v other w s kept at apart there =
    let words : List ℕ = kept.0 in let keeper : ℕ = kept.1 in let h = kept.2 in
    let f : Fits shape words keeper id v = h.seats id v at in
    let g : Fits shape words keeper other w =
    h.seats other w (sym (set_else s.views id other (taken_in v w) apart) ∙ there) in
    let both : Fits shape words keeper id (taken_in v w) = record {
      bound = f.bound;
      feeder = f.feeder;
      closings = All-append (λ number. number ≤ closing words) v.closings w.closings f.closings
          g.closings;
      looks = All-append (IsLook shape words) v.looks w.looks f.looks g.looks;
      heard = All-append (IsHeard shape words) v.heard w.heard f.heard g.heard;
    } in
    let left : Fits shape words keeper other spent =
    knows_nothing shape words keeper other spent (λ bad. absurd (true≢false (sym bad))) refl refl
    refl refl in (
      words,
      keeper,
      record {
        words_are = h.words_are;
        shown = h.shown;
        seats = set_keeps (Fits shape words keeper) (set s.views id (taken_in v w)) other spent left
            (λ j u _ e. set_keeps (Fits shape words keeper) s.views id (taken_in v w) both
            (λ j u _ e. h.seats j u e) j u e);
      },
    )

-- at the start all words but the first are 0
pub first_zero : (shape : Shape) (k : ℕ) → 0 < k → get_or (first_words shape) k 0 ≡ 0
first_zero shape k lt = ap (λ (i : ℕ). get_or (first_words shape) i 0) (suc_pred k lt)
    ∙ zero_from (shape.ticks + shape.ticks * block_len shape) (k - 1)

-- the words at the start
pub first_shown : (shape : Shape) → AreWords shape (first_words shape)
first_shown shape =
    let n : ℕ = shape.ticks + shape.ticks * block_len shape in record {
      len = ap suc (length-replicate n 0) ∙ omega arith;
      begun = le_refl shape.from;
      presence = λ tick inside. let z = first_zero shape (presence shape tick) (omega arith) in
          omega arith;
      spelt = λ place high. let z = first_zero shape place (omega arith) in omega arith;
    }

-- the rule at the start
pub opens : (shape : Shape)
    → Keeps shape (opening (first_words shape) [] (feeder shape (first_words shape)))
opens shape =
    let words : List ℕ = first_words shape in
    (words, 0, record { words_are = refl; shown = first_shown shape; seats = first_seat shape })

-- for the laws on later words
pub ruleset words_stay = (later_then, look_stays, heard_stays)

pub stores_sample : StoresSample
stores_sample m tick place x f inside below fits gone shape slots id =
    writes_allowed shape slots id m _ x f.live f.feeds
    (may_store_sample m.0.shape m.0.words tick place x f.words inside below fits gone)

pub stores_presence : StoresPresence
stores_presence m tick f inside still_open shape slots id =
    writes_allowed shape slots id m _ 1 f.live f.feeds
    (may_store_presence m.0.shape m.0.words tick f.words inside still_open)

pub stores_closing : StoresClosing
stores_closing m upto f rises shape slots id =
    writes_allowed shape slots id m 0 upto f.live f.feeds
    (may_store_closing m.0.shape m.0.words upto f.words rises)

-- for the laws on passes
pub ruleset passes_keep = (hands_allowed, takes_in_allowed)
