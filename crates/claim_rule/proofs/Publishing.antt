-- The exchange keeps the rule: it publishes the entries, or finds that a number was drawn.
use Rattle.std.proofs.Common.{◌≡◌, ◌≢◌, ℕ, ◌+◌, ◌^◌, ◌<◌, ◌==◌, Bool, true, false, List, ◌∷◌}
use Rattle.std.proofs.Common.{◌++◌, length, get_or, set, drop, refl, sym, ap, ◌∙◌, subst, arith}
use Rattle.std.proofs.Common.{le_refl, length-append}
use Rattle.std.proofs.lemmas.Bool.Decides.{nat_tests}
use Rattle.std.proofs.lemmas.List.{drop-append-le}
use Rattle.std.proofs.lemmas.List.Elements.{All-append, All-weaker}
use Rattle.std.specs.List.{All}
use Rattle.std.specs.Prelude.{MatchBool}
use mathlib.Core.Option.{some}
use lib.ListN.{get_elem?}
use prog.Atomic.{either}
use Rattle.atomic_table.specs.Table.{step, keeps, stepped, Allows}
use Rattle.map_entry.specs.declared.entry.Entry.{Entry}
use Rattle.map_entry.specs.Entry.{IsEntryOk}
use Rattle.map_entry.proofs.Entries.{rows_more}
use Rattle.claim_rule.specs.declared.plan.Plan.{Plan}
use Rattle.claim_rule.specs.declared.plan.Start.{Start}
use Rattle.claim_rule.specs.declared.view.View.{View}
use Rattle.claim_rule.specs.declared.view.Draw.{Draw}
use Rattle.map_entry.specs.Tick.{frame_key}
use Rattle.claim_rule.specs.Claims.{plan_of, tick_of, claims_at, IsFit, IsTimely}
use Rattle.claim_rule.specs.Words.{state_word, Spells}
use Rattle.claim_rule.specs.Views.{Begins, overs, times, saw, added}
use Rattle.claim_rule.specs.Rule.{Shown, IsListed, IsGood, Writes, Fits, Holds, Kept}
use Rattle.claim_rule.specs.Plays.{raw_of, count_of, IsLater, publishes, MayPublish}
use Rattle.list_laws.proofs.Items.{set_keeps}
use Rattle.claim_rule.proofs.Totals.{same_total}
use Rattle.claim_rule.proofs.Lists.{begins_same, begins_more, good_published, rises_append}
use Rattle.claim_rule.proofs.Fitting.{some_output}
use Rattle.claim_rule.proofs.Steps.{Table, Seat, head_raw, raw_is, unmoved, fits_on, later_here}
use Rattle.claim_rule.proofs.Steps.{seen_fits}

-- the list with new entries of a given number of draws
pub listed_more : (plan : Plan) (list new : List Entry) (drawn : ℕ) (v : View)
    → IsListed plan list drawn → v.entries ≡ list
    → MayPublish plan v new drawn
    → IsListed plan (list ++ new) drawn
listed_more plan list new drawn v listed same may =
    let room = may.room in let given = listed.given in let long : length v.entries ≡ length list =
    ap length same in
    let grown = length-append list new in record {
      room = omega arith;
      given = omega arith;
      fits = All-append (IsFit plan) list new listed.fits may.fits;
      covers = rows_more plan.setup.device list new (frame_key (tick_of plan 0) 0) listed.covers
          (All-weaker (IsFit plan) (IsEntryOk plan.setup.device)
          (λ (e : Entry) (fit : IsFit plan e). fit.ok) new may.fits);
      rises = rises_append 0 (claims_at plan drawn) list new listed.rises may.ats;
      timely = subst (All (IsTimely plan)) (sym (drop-append-le plan.given list new given))
          (All-append (IsTimely plan) (drop plan.given list) new listed.timely may.timely);
    }

-- the table with new entries
abbrev with_more : Shown → List Entry → Shown
with_more x new = record x { list = x.list ++ new }

-- the exchange finds the word expected
module _ (plan : Plan) (s : Table) (x : Shown) (h : Holds plan s x) (id : ℕ) (v : View)
    (at : get_elem? s.views id ≡ some v) (loud : v.publishes ≡ true)
    (new : List Entry) (may : MayPublish plan v new x.drawn) (next : ℕ)
    (next_is : next ≡ state_word (length v.entries + length new) x.drawn) where
  mine : Writes x id v
  mine = (h.seats id v at).writes loud

  good_more : (d : Draw) → IsGood plan x.list x.drawn d → IsGood plan (x.list ++ new) x.drawn d
  good_more = good_published plan x.list new x.drawn (some_output plan h.sound) may.ats may.timely

  published_else : (j : ℕ) (u : View) → j ≢ id → get_elem? s.views j ≡ some u
      → Fits plan (with_more x new) j u
  published_else j u apart e =
      let o = h.seats j u e in let grown = length-append x.list new in
      fits_on plan x (with_more x new) j u (le_refl x.drawn) (omega arith) good_more
      (begins_more u.entries x.list new o.knows)
      (λ l. absurd (apart ((o.writes l).keeper ∙ sym mine.keeper))) o

  published_mine : Fits plan (with_more x new) id (added v new)
  published_mine =
      let f : Fits plan x id v = h.seats id v at in
      let same : v.entries ++ new ≡ x.list ++ new =
      ap (λ (l : List Entry). l ++ new) mine.entries in
      let grown = length-append x.list new in
      let g = fits_on plan x (with_more x new) id (record v { publishes = false }) (le_refl x.drawn)
      (omega arith) good_more
      (begins_more v.entries x.list new f.knows)
      (λ bad. absurd cc)
      (record {
        bound = f.bound;
        idle = f.idle;
        over = f.over;
        draws = f.draws;
        sights = f.sights;
        told = f.told;
        knows = f.knows;
        writes = λ bad. absurd cc;
      }) in record {
        bound = f.bound;
        idle = f.idle;
        over = f.over;
        draws = g.draws;
        sights = g.sights;
        told = g.told;
        knows = subst (λ (l : List Entry). Begins (v.entries ++ new) l) same
            (begins_same (v.entries ++ new));
        writes = λ _. record { keeper = mine.keeper; entries = same; cells = mine.cells };
      }

  published_holds : (cs : List (ℕ × List Entry))
      → Holds plan (stepped s 0 next id cs (added v new) keeps) (with_more x new)
  published_holds cs =
      let w : View = added v new in
      let word : next ≡ state_word (length (x.list ++ new)) x.drawn = let g =
      length-append x.list new in let l = ap length mine.entries in omega arith in
      record {
        sound = h.sound;
        words = ap (λ (ws : List ℕ). set ws 0 next) h.words ∙ ap (λ (n : ℕ). n ∷ x.cells) word;
        spelt = subst (λ (z : List Entry × List ℕ). Spells z.1 (z.0 ++ new))
            (λ k. (mine.entries k, mine.cells k)) may.spelt;
        listed = listed_more plan x.list new x.drawn v h.listed mine.entries may;
        seats = set_keeps (Fits plan (with_more x new)) s.views id w published_mine published_else;
        parts = same_total (λ (u : View). u.parts) s.views id v w at refl ∙ h.parts;
        low = let t = same_total (overs plan) s.views id v w at refl in let l = h.low in
            omega arith;
        count = same_total (λ (u : View). length u.draws) s.views id v w at refl ∙ h.count;
        once = λ number. same_total (λ (u : View). times number u.draws) s.views id v w at refl
            ∙ h.once number;
      }

-- the publisher exchanges word 0
module _ (start : Start) (slots id : ℕ) (me : Seat) (new : List Entry) (raw old next : ℕ)
    (loud : me.0.publishes ≡ true) (small : raw < 2 ^ 32)
    (old_is : old ≡ state_word (length me.0.entries) raw)
    (next_is : next ≡ state_word (length me.0.entries + length new) raw)
    (live : me.0.live ≡ true) (may_there : MayPublish me.0.plan me.0 new raw) where
  -- what the exchange leaves and tells, where the word was the one expected or another
  record Leaves (s : Table) (hit : Bool) : Type 0 where
    pub after : View
    pub kept : Kept start (stepped s 0 (either hit next (get_or s.words 0 0)) id me.1 after keeps)
    pub told : MatchBool hit (after ≡ added me.0 new)
        ((after ≡ saw me.0 (raw_of (get_or s.words 0 0)) (count_of (get_or s.words 0 0)))
        × IsLater me.0 (get_or s.words 0 0))

  exchanged : (s : Table) → Kept start s → get_elem? s.views id ≡ some me.0 → (hit : Bool)
      → (get_or s.words 0 0 == old) ≡ hit → Leaves s hit
  exchanged s kept at true hit =
      let plan : Plan = plan_of start in let x : Shown = kept.0 in let h = kept.1 in
      let f : Fits plan x id me.0 = h.seats id me.0 at in
      let same : get_or s.words 0 0 ≡ old = grind (arith, nat_tests) in
      let now : x.drawn ≡ raw = sym (raw_is plan s x h)
      ∙ (ap raw_of same ∙ (ap raw_of old_is ∙ head_raw (length me.0.entries) raw small)) in
      let may : MayPublish plan me.0 new x.drawn =
      subst (λ (z : Plan × ℕ). MayPublish z.0 me.0 new z.1) (λ k. (f.bound live k, sym now k))
      may_there in
      let word : next ≡ state_word (length me.0.entries + length new) x.drawn =
      next_is ∙ ap (state_word (length me.0.entries + length new)) (sym now) in
      record {
        after = added me.0 new;
        kept = (with_more x new, published_holds plan s x h id me.0 at loud new may next word me.1);
        told = refl;
      }
  exchanged s kept at false miss =
      let plan : Plan = plan_of start in let x : Shown = kept.0 in let h = kept.1 in
      let f : Fits plan x id me.0 = h.seats id me.0 at in
      let w : View = saw me.0 (raw_of (get_or s.words 0 0)) (count_of (get_or s.words 0 0)) in
      record {
        after = w;
        kept = (
          x,
          unmoved plan s x h 0 id me.1 me.0 w at (seen_fits plan s x h id me.0 f) refl
              refl,
        );
        told = (refl, later_here plan s x h id me.0 f);
      }

  tells : (s : Table) (cs : List (ℕ × List Entry)) (hit : Bool) (w : View)
      → MatchBool hit (w ≡ added me.0 new)
      ((w ≡ saw me.0 (raw_of (get_or s.words 0 0)) (count_of (get_or s.words 0 0)))
      × IsLater me.0 (get_or s.words 0 0))
      → MatchBool hit (◌≡◌ {A = Seat} (w, cs) (added me.0 new, cs))
      (◌≡◌ {A = Seat} (w, cs)
      (saw me.0 (raw_of (get_or s.words 0 0)) (count_of (get_or s.words 0 0)), cs)
      × IsLater me.0 (get_or s.words 0 0))
  tells s cs true w t = ap (λ (v : View). (v, cs)) t
  tells s cs false w t = (ap (λ (v : View). (v, cs)) t.0, t.1)

  pub publishes_keeps : Allows (Kept start) slots id me 0 (λ n. either (n == old) next n)
      (publishes (step slots 0 old next (some new)) me)
  publishes_keeps s kept wide at fine =
      let p = exchanged s kept at (get_or s.words 0 0 == old) refl in
      (p.after, keeps, tt, p.kept, tells s me.1 (get_or s.words 0 0 == old) p.after p.told)
