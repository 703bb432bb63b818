-- How a table begins, and what is known of it in the end.
use Rattle.std.proofs.Common.{◌≡◌, ◌≢◌, ℕ, zero, suc, ◌+◌, ◌≤◌, true, List, []}
use Rattle.std.proofs.Common.{◌∷◌, ◌++◌, length, drop, refl, sym, ap, ◌∙◌, subst, arith}
use Rattle.std.proofs.lemmas.List.Elements.{All-nil, All-append, All-weaker}
use Rattle.std.proofs.lemmas.Bool.Decides.{nat_tests}
use Rattle.std.specs.List.{sum_by, All}
use mathlib.Core.Option.{some, some-injective, some-ne-none}
use lib.ListN.{get_elem?}
use Rattle.atomic_table.specs.Table.{opening, Final, Seen}
use Rattle.map_entry.specs.declared.entry.Entry.{Entry}
use Rattle.map_entry.specs.Entry.{due, selected}
use Rattle.map_entry.proofs.Selection.{selected-behind}
use Rattle.map_entry.specs.Tick.{frame_key}
use Rattle.claim_rule.specs.declared.plan.Plan.{Plan}
use Rattle.claim_rule.specs.declared.plan.Start.{Start}
use Rattle.claim_rule.specs.declared.view.View.{View}
use Rattle.claim_rule.specs.declared.view.Draw.{Draw}
use Rattle.claim_rule.specs.declared.view.Sight.{Sight}
use Rattle.claim_rule.specs.Claims.{plan_of, tick_of}
use Rattle.claim_rule.specs.Views.{times, once_below, IsSight, opener, spent}
use Rattle.claim_rule.specs.Rule.{Shown, IsGood, Fits, IsListed, Kept, Opens}
use Rattle.claim_rule.specs.Ends.{StaysSelected, Ends}
use Rattle.claim_rule.proofs.Totals.{alone, two_of}
use Rattle.claim_rule.proofs.Lists.{begins_same}
use Rattle.claim_rule.proofs.Steps.{Table, most_drawn}

-- only the opener is there
only : (v u : View) (j : ℕ) → get_elem? (v ∷ []) j ≡ some u → (j ≡ 0) × (v ≡ u)
only v u zero e = (refl, some-injective v u e)
only v u (suc j) e = absurd (some-ne-none u (sym e))

none_below : (number : ℕ) → 0 ≡ once_below number 0
none_below number = grind (arith, nat_tests)

pub opens_kept : (start : Start) (words : List ℕ) → Opens start words
    → Kept start (opening words [] (opener start))
opens_kept start words o =
    let plan : Plan = plan_of start in let v : View = opener start in
    let x : Shown = record {
      list = start.entries.value;
      drawn = 0;
      keeper = 0;
      cells = drop 1 start.words.value.items;
    } in
    let fits : Fits plan x 0 v = record {
      bound = λ _. refl;
      idle = λ _. refl;
      over = omega arith;
      draws = All-nil (IsGood plan x.list 0);
      sights = All-nil (IsSight (length x.list) 0);
      told = All-nil (IsSight (length x.list) 0);
      knows = begins_same x.list;
      writes = λ _. record { keeper = refl; entries = refl; cells = refl };
    } in (
      x,
      record {
        sound = o.sound;
        words = o.head;
        spelt = o.spelt;
        listed = o.listed;
        seats = λ j u e. let h = only v u j e in
            subst (λ (z : ℕ × View). Fits plan x z.0 z.1) (λ k. (sym h.0 k, h.1 k)) fits;
        parts = omega arith;
        low = omega arith;
        count = refl;
        once = none_below;
      },
    )

-- the entries after those that a draw found change no row of its tick
pub stays_selected : (plan : Plan) (list : List Entry) (drawn : ℕ) (d : Draw)
    → IsGood plan list drawn d → StaysSelected plan list d
stays_selected plan list drawn d g early output frame few =
    ap (λ (l : List Entry). selected l output (frame_key (tick_of plan d.number) frame)) g.front
    ∙ selected-behind d.found g.rest output (tick_of plan d.number) frame few (g.later early)

-- what is known where that many numbers were drawn
ends_at : (plan : Plan) (list : List Entry) (draws : List Draw) (seen : List Sight) (drawn : ℕ)
    → drawn ≡ length draws → drawn ≤ plan.packets + plan.workers
    → IsListed plan list drawn → All (IsGood plan list drawn) draws
    → ((number : ℕ) → times number draws ≡ once_below number drawn)
    → All (IsSight (length list) drawn) seen → Ends plan list draws seen
ends_at plan list draws seen drawn is most listed good once sights = record {
  most = omega arith;
  listed = subst (IsListed plan list) is listed;
  good = subst (λ (n : ℕ). All (IsGood plan list n) draws) is good;
  rows = All-weaker (IsGood plan list drawn) (StaysSelected plan list)
      (stays_selected plan list drawn) draws good;
  once = λ number. once number ∙ ap (once_below number) is;
  sights = subst (λ (n : ℕ). All (IsSight (length list) n) seen) is sights;
}

-- in the end the publisher has every part
pub ends_so : (start : Start) (id : ℕ) (v : View) (words : List ℕ) (slots : List (List Entry))
    → v.publishes ≡ true → v.parts ≡ start.workers
    → Final (Seen (Kept start) id v) words slots
    → Ends (plan_of start) v.entries v.draws (v.sights ++ v.told)
ends_so start id v words slots loud whole final =
    let s : Table = final.0 in let kept = final.1.0 in let at = final.1.1 in
    let plan : Plan = plan_of start in let x : Shown = kept.0 in let h = kept.1 in
    let f : Fits plan x id v = h.seats id v at in let mine = f.writes loud in
    let idle : (j : ℕ) (u : View) → j ≢ id → get_elem? s.views j ≡ some u → u.draws ≡ [] =
    λ j u apart e.
    let two : u.parts + v.parts ≤ sum_by (λ v. v.parts) s.views =
    two_of (λ (v : View). v.parts) s.views id j v u spent refl at e apart in
    let all = h.parts in (h.seats j u e).idle (omega arith) in
    let count : sum_by (λ v. length v.draws) s.views ≡ length v.draws =
    alone (λ (u : View). length u.draws) s.views id v at
    (λ j u apart e. ap length (idle j u apart e)) in
    ends_at plan v.entries v.draws (v.sights ++ v.told) x.drawn (sym h.count ∙ count)
    (most_drawn plan s x h)
    (subst (λ (l : List Entry). IsListed plan l x.drawn) (sym mine.entries) h.listed)
    (subst (λ (l : List Entry). All (IsGood plan l x.drawn) v.draws) (sym mine.entries) f.draws)
    (λ number. sym
    (alone (λ (u : View). times number u.draws) s.views id v at
    (λ j u apart e. ap (times number) (idle j u apart e))) ∙ h.once number)
    (subst (λ (l : List Entry). All (IsSight (length l) x.drawn) (v.sights ++ v.told))
    (sym mine.entries)
    (All-append (IsSight (length x.list) x.drawn) v.sights v.told f.sights f.told))
