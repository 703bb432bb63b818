-- Draws, loads and stores keep the rule.
use Rattle.std.proofs.Common.{◌≡◌, ◌≢◌, ℕ, suc, ◌+◌, ◌-◌, ◌*◌, ◌%◌, ◌^◌, ◌<◌, ◌≤◌, ◌==◌, cond}
use Rattle.std.proofs.Common.{true, false, List, [], ◌∷◌, length, get_or, set, refl, sym, ap, ◌∙◌}
use Rattle.std.proofs.Common.{subst, arith, le_refl, add-one}
use Rattle.std.proofs.lemmas.List.{append-nil, get_or-set_other, set-get_or, length_push}
use Rattle.std.proofs.lemmas.List.Elements.{All-nil, All-push, All-weaker}
use Rattle.std.proofs.lemmas.List.Sums.{sum_by_push}
use Rattle.std.proofs.lemmas.Nat.{shr_high, mod_low}
use Rattle.std.specs.List.{sum_by, All}
use mathlib.Core.Option.{none, some}
use lib.ListN.{get_elem?}
use Rattle.atomic_table.specs.Table.{State, Me, step, keeps, stepped, Allows}
use Rattle.map_entry.specs.declared.entry.Entry.{Entry}
use Rattle.map_entry.specs.Entry.{due}
use Rattle.claim_rule.specs.declared.plan.Plan.{Plan}
use Rattle.claim_rule.specs.declared.plan.Start.{Start}
use Rattle.claim_rule.specs.declared.view.View.{View}
use Rattle.claim_rule.specs.declared.view.Draw.{Draw}
use Rattle.claim_rule.specs.Claims.{plan_of, tick_of, claims_at, IsSound, IsFit}
use Rattle.claim_rule.specs.Words.{stride, state_word, entry_words, IsSpeltAt, Spells}
use Rattle.claim_rule.specs.Views.{Begins, draw, late, overs, is_at, times, sight, IsSight, drew}
use Rattle.claim_rule.specs.Views.{loaded, pieced, saw, wrote}
use Rattle.claim_rule.specs.Rule.{Shown, IsGood, Writes, Fits, Holds, Kept}
use Rattle.claim_rule.specs.Plays.{raw_of, count_of, IsFound, IsLater, draws, reads, reads_piece}
use Rattle.claim_rule.specs.Plays.{sees, writes}
use Rattle.list_laws.proofs.Items.{set_keeps}
use Rattle.claim_rule.proofs.Totals.{total_set, same_total, one_of, each_less, one_less, once_more}
use Rattle.claim_rule.proofs.Lists.{begins_same, begins_at, begins_length, sights_more, late_most}
use Rattle.claim_rule.proofs.Lists.{late_counts, good_drawn, rises_more}
use Rattle.claim_rule.proofs.Fitting.{entry_short}

-- the table, with what each seat knows
abbrev pub Table : Type 0
Table = State (List Entry) View

-- the seat that steps
abbrev pub Seat : Type 0
Seat = Me (List Entry) View

-- ---- word 0

pub head_raw : (count drawn : ℕ) → drawn < 2 ^ 32 → raw_of (state_word count drawn) ≡ drawn
head_raw count drawn few = mod_low count 32 drawn few

pub head_count : (count drawn : ℕ) → drawn < 2 ^ 32 → count_of (state_word count drawn) ≡ count
head_count count drawn few = shr_high count 32 drawn few

-- ---- what holds of a table

module _ (plan : Plan) (s : Table) (x : Shown) (h : Holds plan s x) where
  few_overs : sum_by (overs plan) s.views ≤ plan.workers
  few_overs =
      let e = each_less (overs plan) (λ v. v.parts) s.views (λ i v at. (h.seats i v at).over) in
      let p = h.parts in omega arith

  pub most_drawn : x.drawn ≤ plan.packets + plan.workers
  most_drawn = let f = few_overs in let l = h.low in omega arith

  pub few_drawn : x.drawn < 2 ^ 32
  few_drawn = let m = most_drawn in let b = h.sound.few in omega arith

  pub head_is : get_or s.words 0 0 ≡ state_word (length x.list) x.drawn
  head_is = ap (λ (ws : List ℕ). get_or ws 0 0) h.words

  pub raw_is : raw_of (get_or s.words 0 0) ≡ x.drawn
  raw_is = ap raw_of head_is ∙ head_raw (length x.list) x.drawn few_drawn

  pub count_is : count_of (get_or s.words 0 0) ≡ length x.list
  count_is = ap count_of head_is ∙ head_count (length x.list) x.drawn few_drawn

  -- a step that changes no word, and neither parts nor draws of its seat
  pub unmoved : (i id : ℕ) (cs : List (ℕ × List Entry)) (v w : View) → get_elem? s.views id ≡ some v
      → Fits plan x id w → w.parts ≡ v.parts
      → w.draws ≡ v.draws
      → Holds plan (stepped s i (get_or s.words i 0) id cs w keeps) x
  unmoved i id cs v w at fits parts same = record {
    sound = h.sound;
    words = set-get_or s.words i 0 ∙ h.words;
    spelt = h.spelt;
    listed = h.listed;
    seats = set_keeps (Fits plan x) s.views id w fits (λ j u _ e. h.seats j u e);
    parts = same_total (λ (u : View). u.parts) s.views id v w at parts ∙ h.parts;
    low = let t = same_total (overs plan) s.views id v w at (ap (sum_by (late plan)) same) in
        let l = h.low in omega arith;
    count = same_total (λ (u : View). length u.draws) s.views id v w at (ap length same) ∙ h.count;
    once = λ number. same_total (λ (u : View). times number u.draws) s.views id v w at
        (ap (times number) same) ∙ h.once number;
  }

-- a seat knows no less of a table that has gone on
pub fits_on : (plan : Plan) (x y : Shown) (seat : ℕ) (v : View) → x.drawn ≤ y.drawn
    → length x.list ≤ length y.list
    → ((d : Draw) → IsGood plan x.list x.drawn d → IsGood plan y.list y.drawn d)
    → Begins v.entries y.list
    → (v.publishes ≡ true → Writes y seat v)
    → Fits plan x seat v → Fits plan y seat v
fits_on plan x y seat v drawn long good knows writes f = record {
  bound = f.bound;
  idle = f.idle;
  over = f.over;
  draws = All-weaker (IsGood plan x.list x.drawn) (IsGood plan y.list y.drawn) good v.draws f.draws;
  sights = sights_more (length x.list) x.drawn (length y.list) y.drawn long drawn v.sights f.sights;
  told = sights_more (length x.list) x.drawn (length y.list) y.drawn long drawn v.told f.told;
  knows = knows;
  writes = writes;
}

-- ---- a worker loads a word of an entry

pub reads_keeps : (start : Start) (slots id : ℕ) (me : Seat) (i : ℕ)
    → Allows (Kept start) slots id me i (λ n. n) (reads (step slots i 0 0 none) me)
reads_keeps start slots id me i s kept _ at _ =
    let plan : Plan = plan_of start in let x : Shown = kept.0 in let h = kept.1 in
    let w : View = loaded me.0 in
    let f : Fits plan x id me.0 = h.seats id me.0 at in
    let fits : Fits plan x id w = record {
      bound = f.bound;
      idle = f.idle;
      over = f.over;
      draws = f.draws;
      sights = f.sights;
      told = f.told;
      knows = f.knows;
      writes = λ loud. let mine = f.writes loud in
          record { keeper = mine.keeper; entries = mine.entries; cells = mine.cells };
    } in (
      w,
      keeps,
      tt,
      (x, unmoved plan s x h i id me.1 me.0 w at fits refl refl),
      (
        refl,
        λ j k d place inside short.
            let same : get_or x.list j d ≡ get_or me.0.entries j d =
            begins_at me.0.entries x.list j d f.knows inside in
            let there : j < length x.list = let b = begins_length me.0.entries x.list f.knows in
            omega arith in
            let spelt = subst (IsSpeltAt x.cells j) same (h.spelt j d there) k short in
            ap (λ (n : ℕ). get_or s.words n 0) (place ∙ add-one (j * stride + k))
            ∙ (ap (λ (ws : List ℕ). get_or ws (suc (j * stride + k)) 0) h.words ∙ spelt),
      ),
    )

pub pieces_keeps : (start : Start) (slots id : ℕ) (me : Seat) (i : ℕ)
    → Allows (Kept start) slots id me i (λ n. n) (reads_piece (step slots i 0 0 none) me)
pieces_keeps start slots id me i s kept _ at _ =
    let plan : Plan = plan_of start in let x : Shown = kept.0 in let h = kept.1 in
    let w : View = pieced me.0 in
    let f : Fits plan x id me.0 = h.seats id me.0 at in
    let fits : Fits plan x id w = record {
      bound = f.bound;
      idle = f.idle;
      over = f.over;
      draws = f.draws;
      sights = f.sights;
      told = f.told;
      knows = f.knows;
      writes = λ loud. let mine = f.writes loud in
          record { keeper = mine.keeper; entries = mine.entries; cells = mine.cells };
    } in (
      w,
      keeps,
      tt,
      (x, unmoved plan s x h i id me.1 me.0 w at fits refl refl),
      (
        refl,
        λ j k d place inside short.
            let same : get_or x.list j d ≡ get_or me.0.entries j d =
            begins_at me.0.entries x.list j d f.knows inside in
            let there : j < length x.list = let b = begins_length me.0.entries x.list f.knows in
            omega arith in
            let spelt = subst (IsSpeltAt x.cells j) same (h.spelt j d there) k short in
            ap (λ (n : ℕ). get_or s.words n 0) (place ∙ add-one (j * stride + k))
            ∙ (ap (λ (ws : List ℕ). get_or ws (suc (j * stride + k)) 0) h.words ∙ spelt),
      ),
    )

-- ---- a worker draws

-- another seat's draws and states stand after a draw
drawn_else : (plan : Plan) (x : Shown) (seat : ℕ) (v : View) → Fits plan x seat v
    → Fits plan (record x { drawn = x.drawn + 1 }) seat v
drawn_else plan x seat v f =
    fits_on plan x (record x { drawn = x.drawn + 1 }) seat v (omega arith) (le_refl (length x.list))
    (good_drawn plan x.list x.drawn) f.knows
    (λ loud. let mine = f.writes loud in
    record { keeper = mine.keeper; entries = mine.entries; cells = mine.cells }) f

drawn_mine : (plan : Plan) (x : Shown) (id : ℕ) (v : View) → v.publishes ≡ false → 0 < v.parts
    → overs plan v ≡ 0 → Fits plan x id v
    → Fits plan (record x { drawn = x.drawn + 1 }) id (drew v x.drawn x.list)
drawn_mine plan x id v quiet part early f =
    let d : Draw = draw x.drawn x.list in let y : Shown = record x { drawn = x.drawn + 1 } in
    let g = drawn_else plan x id v f in
    let one : late plan d ≤ 1 = late_most plan x.drawn x.list in
    let grown : overs plan (drew v x.drawn x.list) ≡ overs plan v + late plan d =
    sum_by_push (late plan) v.draws d in record {
      bound = f.bound;
      idle = λ nothing. absurd (omega arith);
      over = omega arith;
      draws = All-push (IsGood plan y.list y.drawn) v.draws d g.draws
          (record {
            below = omega arith;
            rest = [];
            front = sym (append-nil x.list);
            later = λ _. All-nil (λ (e : Entry). tick_of plan x.drawn < e.tick);
          });
      sights = g.sights;
      told = g.told;
      knows = begins_same x.list;
      writes = λ loud. absurd cc;
    }

module _ (plan : Plan) (s : Table) (x : Shown) (h : Holds plan s x) (id : ℕ) (v : View)
    (at : get_elem? s.views id ≡ some v)
    (quiet : v.publishes ≡ false)
    (part : 0 < v.parts) (early : overs plan v ≡ 0) where
  -- there is a seat that may still draw past the packets
  small : x.drawn + 1 < 2 ^ 32
  small =
      let less = one_less (overs plan) (λ (u : View). u.parts) s.views id v at
      (λ i u e. (h.seats i u e).over) in
      let all = h.parts in let l = h.low in let few = h.sound.few in omega arith

  next_word : (get_or s.words 0 0 + 1) % 2 ^ 64 ≡ state_word (length x.list) (x.drawn + 1)
  next_word = let is = head_is plan s x h in let room = h.listed.room in let f = small in
      omega arith

  drawn_holds : (cs : List (ℕ × List Entry))
      → Holds plan (stepped s 0 ((get_or s.words 0 0 + 1) % 2 ^ 64) id cs (drew v x.drawn x.list)
      keeps)
      (record x { drawn = x.drawn + 1 })
  drawn_holds cs =
      let w : View = drew v x.drawn x.list in let d : Draw = draw x.drawn x.list in
      let y : Shown = record x { drawn = x.drawn + 1 } in
      let l = h.low in
      let grown : overs plan w ≡ overs plan v + late plan d = sum_by_push (late plan) v.draws d in
      let t : sum_by (overs plan) (set s.views id w) + overs plan v ≡ sum_by (overs plan)
      s.views + overs plan w =
      total_set (overs plan) s.views id v w at in
      let counts : x.drawn + 1 ≤ plan.packets + (sum_by (overs plan) s.views + late plan d) =
      late_counts plan.packets x.drawn (sum_by (overs plan) s.views) l in record {
        sound = h.sound;
        words = ap (λ (ws : List ℕ). set ws 0 ((get_or s.words 0 0 + 1) % 2 ^ 64)) h.words
            ∙ ap (λ (n : ℕ). n ∷ x.cells) next_word;
        spelt = h.spelt;
        listed = record {
          room = h.listed.room;
          given = h.listed.given;
          fits = h.listed.fits;
          covers = h.listed.covers;
          rises = rises_more 0 (claims_at plan x.drawn) (claims_at plan (x.drawn + 1)) x.list
              (omega arith) h.listed.rises;
          timely = h.listed.timely;
        };
        seats = set_keeps (Fits plan y) s.views id w
            (drawn_mine plan x id v quiet part early (h.seats id v at))
            (λ j u _ e. drawn_else plan x j u (h.seats j u e));
        parts = same_total (λ (u : View). u.parts) s.views id v w at refl ∙ h.parts;
        low = omega arith;
        count =
            let t = total_set (λ (u : View). length u.draws) s.views id v w at in
            let p : length w.draws ≡ length v.draws + 1 = length_push v.draws d in
            let c = h.count in omega arith;
        once = λ number.
            let t = total_set (λ (u : View). times number u.draws) s.views id v w at in
            let p : times number w.draws ≡ times number v.draws + cond (x.drawn == number) 1 0 =
            sum_by_push (is_at number) v.draws d in
            let o = h.once number in let m = once_more number x.drawn in omega arith;
      }

pub draws_keeps : (start : Start) (slots id : ℕ) (me : Seat) → me.0.live ≡ true
    → me.0.publishes ≡ false → 0 < me.0.parts
    → overs me.0.plan me.0 ≡ 0
    → Allows (Kept start) slots id me 0 (λ n. (n + 1) % 2 ^ 64) (draws (step slots 0 1 0 none) me)
draws_keeps start slots id me live quiet part early_there s kept _ at _ =
    let plan : Plan = plan_of start in let x : Shown = kept.0 in let h = kept.1 in
    let f : Fits plan x id me.0 = h.seats id me.0 at in
    let early : overs plan me.0 ≡ 0 =
    subst (λ (p : Plan). overs p me.0 ≡ 0) (f.bound live) early_there in
    let raw : x.drawn ≡ raw_of (get_or s.words 0 0) = sym (raw_is plan s x h) in (
      drew me.0 x.drawn x.list,
      keeps,
      tt,
      (record x { drawn = x.drawn + 1 }, drawn_holds plan s x h id me.0 at quiet part early me.1),
      (
        x.list,
        ap (λ (n : ℕ). (drew me.0 n x.list, me.1)) raw,
        (let o = one_of (λ (u : View). length u.draws) s.views id me.0 at in let c = h.count in
            omega arith),
        f.knows,
        subst (λ (p : Plan). IsFound p x.list (get_or s.words 0 0)) (sym (f.bound live))
            (record {
              count = sym (count_is plan s x h);
              room = h.listed.room;
              fits = h.listed.fits;
              covers = h.listed.covers;
            }),
        subst (λ (n : ℕ). All (λ (d : Draw). d.number < n) me.0.draws) raw
            (All-weaker (IsGood plan x.list x.drawn) (λ (d : Draw). d.number < x.drawn)
            (λ (d : Draw) (g : IsGood plan x.list x.drawn d). g.below) me.0.draws f.draws),
      ),
    )

-- ---- a seat sees the state

pub later_here : (plan : Plan) (s : Table) (x : Shown) → Holds plan s x → (id : ℕ) (v : View)
    → Fits plan x id v → IsLater v (get_or s.words 0 0)
later_here plan s x h id v f =
    let raw = raw_is plan s x h in let count = count_is plan s x h in
    let n : ℕ = count_of (get_or s.words 0 0) in let d : ℕ = raw_of (get_or s.words 0 0) in record {
      sights = sights_more (length x.list) x.drawn n d (omega arith) (omega arith) v.sights
          f.sights;
      told = sights_more (length x.list) x.drawn n d (omega arith) (omega arith) v.told f.told;
      own = λ loud. count ∙ ap length (sym (f.writes loud).entries);
      most = λ live. subst (λ (p : Plan). d ≤ p.packets + p.workers) (sym (f.bound live))
          (let m = most_drawn plan s x h in omega arith);
    }

pub seen_fits : (plan : Plan) (s : Table) (x : Shown) → Holds plan s x → (id : ℕ) (v : View)
    → Fits plan x id v
    → Fits plan x id (saw v (raw_of (get_or s.words 0 0)) (count_of (get_or s.words 0 0)))
seen_fits plan s x h id v f =
    let raw = raw_is plan s x h in let count = count_is plan s x h in
    let n : ℕ = count_of (get_or s.words 0 0) in let d : ℕ = raw_of (get_or s.words 0 0) in record {
      bound = f.bound;
      idle = f.idle;
      over = f.over;
      draws = f.draws;
      sights = All-push (IsSight (length x.list) x.drawn) v.sights (sight d n) f.sights
          (record { raw = omega arith; entries = omega arith });
      told = f.told;
      knows = f.knows;
      writes = λ loud. let mine = f.writes loud in
          record { keeper = mine.keeper; entries = mine.entries; cells = mine.cells };
    }

pub sees_keeps : (start : Start) (slots id : ℕ) (me : Seat)
    → Allows (Kept start) slots id me 0 (λ n. n) (sees (step slots 0 0 0 none) me)
sees_keeps start slots id me s kept _ at _ =
    let plan : Plan = plan_of start in let x : Shown = kept.0 in let h = kept.1 in
    let w : View = saw me.0 (raw_of (get_or s.words 0 0)) (count_of (get_or s.words 0 0)) in
    let f : Fits plan x id me.0 = h.seats id me.0 at in (
      w,
      keeps,
      tt,
      (x, unmoved plan s x h 0 id me.1 me.0 w at (seen_fits plan s x h id me.0 f) refl refl),
      (refl, later_here plan s x h id me.0 f),
    )

-- ---- the publisher stores a word

-- a word after the entries spells none of them
spelt_else : (plan : Plan) (list : List Entry) (cells : List ℕ) (p word : ℕ) → IsSound plan
    → All (IsFit plan) list → length list * stride ≤ p
    → Spells cells list
    → Spells (set cells p word) list
spelt_else plan list cells p word sound fits past spelt i d lt k short =
    let e : Entry = get_or list i d in
    let row : length (entry_words e) ≤ stride = entry_short plan e sound (fits i d lt) in
    get_or-set_other cells p (i * stride + k) word 0 (λ same. omega arith) ∙ spelt i d lt k short

pub writes_keeps : (start : Start) (slots id : ℕ) (me : Seat) (i p word : ℕ) → i ≡ p + 1
    → me.0.publishes ≡ true
    → length me.0.entries * stride ≤ p
    → Allows (Kept start) slots id me i (λ _. word) (λ _. writes (step slots i word 0 none) me word)
writes_keeps start slots id me i p word place loud past s kept _ at _ =
    let plan : Plan = plan_of start in let x : Shown = kept.0 in let h = kept.1 in
    let f : Fits plan x id me.0 = h.seats id me.0 at in let mine = f.writes loud in
    let back : i - 1 ≡ p = omega arith in let up : i ≡ suc p = omega arith in
    let w : View = wrote me.0 (i - 1) word in
    let y : Shown = record x { cells = set x.cells p word } in
    let behind : length x.list * stride ≤ p =
    subst (λ (l : List Entry). length l * stride ≤ p) mine.entries past in
    let fits : Fits plan y id w = record {
      bound = f.bound;
      idle = f.idle;
      over = f.over;
      draws = f.draws;
      sights = f.sights;
      told = f.told;
      knows = f.knows;
      writes = λ _. record {
        keeper = mine.keeper;
        entries = mine.entries;
        cells = (λ k. set (mine.cells k) (back k) word);
      };
    } in
    let others : (j : ℕ) (u : View) → j ≢ id → get_elem? s.views j ≡ some u → Fits plan y j u =
    λ j u apart e.
    let o = h.seats j u e in
    fits_on plan x y j u (le_refl x.drawn) (le_refl (length x.list)) (λ d g. g) o.knows
    (λ l. absurd (apart ((o.writes l).keeper ∙ sym mine.keeper))) o in
    let after : Holds plan (stepped s i word id me.1 w keeps) y = record {
      sound = h.sound;
      words = (λ k. set (h.words k) (up k) word);
      spelt = spelt_else plan x.list x.cells p word h.sound h.listed.fits behind h.spelt;
      listed = h.listed;
      seats = set_keeps (Fits plan y) s.views id w fits others;
      parts = same_total (λ (u : View). u.parts) s.views id me.0 w at refl ∙ h.parts;
      low = let t = same_total (overs plan) s.views id me.0 w at refl in let l = h.low in
          omega arith;
      count = same_total (λ (u : View). length u.draws) s.views id me.0 w at refl ∙ h.count;
      once = λ number. same_total (λ (u : View). times number u.draws) s.views id me.0 w at refl
          ∙ h.once number;
    } in
    (w, keeps, tt, (y, after), refl)
