-- Views that are cut in two, and views that are joined, keep the rule.
use Rattle.std.proofs.Common.{◌≡◌, ℕ, ◌+◌, ◌<◌, true, List, [], ◌∷◌, ◌++◌}
use Rattle.std.proofs.Common.{length, set, refl, sym, ap, ◌∙◌, subst, ⊎_elim, arith, length-append}
use Rattle.std.proofs.lemmas.List.{append-nil}
use Rattle.std.proofs.lemmas.List.Elements.{All-nil, All-append}
use Rattle.std.proofs.lemmas.List.Sums.{sum_by_push, sum_by-append}
use Rattle.std.specs.List.{sum_by, All}
use mathlib.Core.Option.{some}
use lib.ListN.{get_elem?}
use Rattle.atomic_table.specs.Table.{Splits, Joins}
use Rattle.atomic_table.proofs.Lists.{at_snoc, set_else}
use Rattle.claim_rule.specs.declared.plan.Plan.{Plan}
use Rattle.claim_rule.specs.declared.plan.Start.{Start}
use Rattle.claim_rule.specs.declared.view.View.{View}
use Rattle.claim_rule.specs.declared.view.Draw.{Draw}
use Rattle.claim_rule.specs.declared.view.Sight.{Sight}
use Rattle.claim_rule.specs.Claims.{plan_of}
use Rattle.claim_rule.specs.Views.{late, overs, is_at, times, IsSight, newcomer, without_part}
use Rattle.claim_rule.specs.Views.{worker, note, noted, taken_in, spent}
use Rattle.claim_rule.specs.Rule.{Shown, IsGood, Fits, Holds, Kept}
use Rattle.list_laws.proofs.Items.{set_keeps}
use Rattle.claim_rule.proofs.Totals.{total_set, same_total}
use Rattle.claim_rule.proofs.Steps.{Table}

-- a seat's changed view, where neither its plan nor what it publishes changes
module _ (plan : Plan) (x : Shown) where
  -- a view that knows no draw
  pub newcomer_fits : (seat parts : ℕ) (told : List Sight)
      → All (IsSight (length x.list) x.drawn) told → Fits plan x seat (newcomer plan parts told)
  newcomer_fits seat parts told all = record {
    bound = λ _. refl;
    idle = λ _. refl;
    over = omega arith;
    draws = All-nil (IsGood plan x.list x.drawn);
    sights = All-nil (IsSight (length x.list) x.drawn);
    told = all;
    knows = (x.list, refl);
    writes = λ bad. absurd cc;
  }

  spent_fits : (seat : ℕ) → Fits plan x seat spent
  spent_fits seat = record {
    bound = λ bad. absurd cc;
    idle = λ _. refl;
    over = omega arith;
    draws = All-nil (IsGood plan x.list x.drawn);
    sights = All-nil (IsSight (length x.list) x.drawn);
    told = All-nil (IsSight (length x.list) x.drawn);
    knows = (x.list, refl);
    writes = λ bad. absurd cc;
  }

module _ (plan : Plan) (s : Table) (x : Shown) (h : Holds plan s x) where
  -- a view goes to two seats, of which the second has no draw
  cut : (id : ℕ) (v left right : View) → get_elem? s.views id ≡ some v → Fits plan x id left
      → ((j : ℕ) → Fits plan x j right)
      → left.parts + right.parts ≡ v.parts → left.draws ≡ v.draws → right.draws ≡ []
      → Holds plan
      (record { words = s.words; homes = s.homes; views = set s.views id left ++ right ∷ [] }) x
  cut id v left right at lf rf parts same nil =
      let vs : List View = set s.views id left in record {
        sound = h.sound;
        words = h.words;
        spelt = h.spelt;
        listed = h.listed;
        seats = λ j u e.
            ⊎_elim
            (set_keeps (Fits plan x) s.views id left lf (λ j u _ e. h.seats j u e) j u)
            (λ (t : right ≡ u). subst (Fits plan x j) t (rf j))
            (at_snoc vs right u j e);
        parts =
            let t = total_set (λ (u : View). u.parts) s.views id v left at in
            let p = sum_by_push (λ (u : View). u.parts) vs right in let all = h.parts in
            omega arith;
        low =
            let t = same_total (overs plan) s.views id v left at (ap (sum_by (late plan)) same) in
            let p = sum_by_push (overs plan) vs right in let l = h.low in omega arith;
        count =
            let t = same_total (λ (u : View). length u.draws) s.views id v left at (ap length same)
            in
            let p = sum_by_push (λ (u : View). length u.draws) vs right in
            let z : length right.draws ≡ 0 = ap length nil in let c = h.count in omega arith;
        once = λ number.
            let t = same_total (λ (u : View). times number u.draws) s.views id v left at
            (ap (times number) same) in
            let p = sum_by_push (λ (u : View). times number u.draws) vs right in
            let z : times number right.draws ≡ 0 = ap (times number) nil in let o = h.once number in
            omega arith;
      }

  -- a view takes in another, of which nothing is left
  glued : (id : ℕ) (v : View) (other : ℕ) (w both : View) → get_elem? s.views id ≡ some v
      → get_elem? (set s.views id both) other ≡ some w
      → Fits plan x id both → both.parts ≡ v.parts + w.parts → both.draws ≡ v.draws ++ w.draws
      → Holds plan
      (record {
        words = s.words;
        homes = s.homes;
        views = set (set s.views id both) other spent;
      }) x
  glued id v other w both at there bf parts draws =
      let vs : List View = set s.views id both in record {
        sound = h.sound;
        words = h.words;
        spelt = h.spelt;
        listed = h.listed;
        seats = set_keeps (Fits plan x) vs other spent (spent_fits plan x other)
            (λ j u _ e. set_keeps (Fits plan x) s.views id both bf (λ j u _ e. h.seats j u e) j u
            e);
        parts =
            let t = total_set (λ (u : View). u.parts) s.views id v both at in
            let p = total_set (λ (u : View). u.parts) vs other w spent there in let all = h.parts in
            omega arith;
        low =
            let t = total_set (overs plan) s.views id v both at in
            let p = total_set (overs plan) vs other w spent there in let l = h.low in
            let e : overs plan both ≡ overs plan v + overs plan w = ap (sum_by (late plan)) draws
            ∙ sum_by-append (late plan) v.draws w.draws in
            omega arith;
        count =
            let t = total_set (λ (u : View). length u.draws) s.views id v both at in
            let p = total_set (λ (u : View). length u.draws) vs other w spent there in
            let c = h.count in
            let e : length both.draws ≡ length v.draws + length w.draws = ap length draws
            ∙ length-append v.draws w.draws in omega arith;
        once = λ number.
            let t = total_set (λ (u : View). times number u.draws) s.views id v both at in
            let p = total_set (λ (u : View). times number u.draws) vs other w spent there in
            let o = h.once number in
            let e : times number both.draws ≡ times number v.draws + times number w.draws =
            ap (times number) draws ∙ sum_by-append (is_at number) v.draws w.draws in omega arith;
      }

-- the publisher makes a worker's pass
pub hands_keeps : (start : Start) (id : ℕ) (v : View) → v.live ≡ true → 0 < v.parts → v.draws ≡ []
    → Splits (Kept start) id v (without_part v) (worker v)
hands_keeps start id v live some_part nil s kept at =
    let plan : Plan = plan_of start in let x : Shown = kept.0 in let h = kept.1 in
    let f : Fits plan x id v = h.seats id v at in
    let none_late : overs plan v ≡ 0 = ap (sum_by (late plan)) nil in
    let left : Fits plan x id (without_part v) = record {
      bound = f.bound;
      idle = λ _. nil;
      over = omega arith;
      draws = f.draws;
      sights = f.sights;
      told = f.told;
      knows = f.knows;
      writes = λ loud. let mine = f.writes loud in
          record { keeper = mine.keeper; entries = mine.entries; cells = mine.cells };
    } in
    let right : (j : ℕ) → Fits plan x j (worker v) = λ j.
    subst (λ (p : Plan). Fits plan x j (newcomer p 1 [])) (sym (f.bound live))
    (newcomer_fits plan x j 1 [] (All-nil (IsSight (length x.list) x.drawn))) in
    (x, cut plan s x h id v (without_part v) (worker v) at left right (omega arith) refl refl)

-- a seat makes a note, or the publisher a client's pass
pub notes_keeps : (start : Start) (id : ℕ) (v : View) → v.live ≡ true
    → Splits (Kept start) id v v (note v)
notes_keeps start id v live s kept at =
    let plan : Plan = plan_of start in let x : Shown = kept.0 in let h = kept.1 in
    let f : Fits plan x id v = h.seats id v at in
    let right : (j : ℕ) → Fits plan x j (note v) = λ j.
    subst (λ (p : Plan). Fits plan x j (newcomer p 0 (v.sights ++ v.told))) (sym (f.bound live))
    (newcomer_fits plan x j 0 (v.sights ++ v.told)
    (All-append (IsSight (length x.list) x.drawn) v.sights v.told f.sights f.told)) in
    (x, cut plan s x h id v v (note v) at f right (omega arith) refl refl)

-- what another seat has
other_fits : (plan : Plan) (s : Table) (x : Shown) → Holds plan s x → (id other : ℕ) (both w : View)
    → ¬ (other ≡ id)
    → get_elem? (set s.views id both) other ≡ some w → Fits plan x other w
other_fits plan s x h id other both w apart there =
    h.seats other w (sym (set_else s.views id other both apart) ∙ there)

-- a seat takes a note in
pub notes_in_keeps : (start : Start) (id : ℕ) (v : View) (other : ℕ) (w : View) → w.parts ≡ 0
    → Joins (Kept start) id v other w (noted v w) spent
notes_in_keeps start id v other w no_part s kept at apart there =
    let plan : Plan = plan_of start in let x : Shown = kept.0 in let h = kept.1 in
    let f : Fits plan x id v = h.seats id v at in
    let g = other_fits plan s x h id other (noted v w) w apart there in
    let nil : w.draws ≡ [] = g.idle no_part in
    let P : Sight → Type 0 = IsSight (length x.list) x.drawn in
    let both : Fits plan x id (noted v w) = record {
      bound = f.bound;
      idle = f.idle;
      over = f.over;
      draws = f.draws;
      sights = f.sights;
      told = All-append P v.told (w.sights ++ w.told) f.told
          (All-append P w.sights w.told g.sights g.told);
      knows = f.knows;
      writes = λ loud. let mine = f.writes loud in
          record { keeper = mine.keeper; entries = mine.entries; cells = mine.cells };
    } in (
      x,
      glued plan s x h id v other w (noted v w) at there both (omega arith)
          (sym (append-nil v.draws) ∙ ap (λ (l : List Draw). v.draws ++ l) (sym nil)),
    )

-- the publisher takes a worker's pass in
pub takes_in_keeps : (start : Start) (id : ℕ) (v : View) (other : ℕ) (w : View)
    → Joins (Kept start) id v other w (taken_in v w) spent
takes_in_keeps start id v other w s kept at apart there =
    let plan : Plan = plan_of start in let x : Shown = kept.0 in let h = kept.1 in
    let f : Fits plan x id v = h.seats id v at in
    let g = other_fits plan s x h id other (taken_in v w) w apart there in
    let both : Fits plan x id (taken_in v w) = record {
      bound = f.bound;
      idle = λ nothing.
          let a : v.draws ≡ [] = f.idle (omega arith) in
          let b : w.draws ≡ [] = g.idle (omega arith) in (λ k. a k ++ b k);
      over =
          let a = f.over in let b = g.over in
          let e : overs plan (taken_in v w) ≡ overs plan v + overs plan w =
          sum_by-append (late plan) v.draws w.draws in omega arith;
      draws = All-append (IsGood plan x.list x.drawn) v.draws w.draws f.draws g.draws;
      sights = f.sights;
      told = f.told;
      knows = f.knows;
      writes = λ loud. let mine = f.writes loud in
          record { keeper = mine.keeper; entries = mine.entries; cells = mine.cells };
    } in
    (x, glued plan s x h id v other w (taken_in v w) at there both refl refl)
