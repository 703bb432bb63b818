-- Lists of entries, draws and states seen as a table goes on.
use Rattle.std.proofs.Common.{◌≡◌, ℕ, ◌+◌, ◌<◌, ◌≤◌, cond, nat_le, List, [], ◌∷◌}
use Rattle.std.proofs.Common.{◌++◌, length, get_or, sym, ap, ◌∙◌, arith, append_assoc}
use Rattle.std.proofs.Common.{length-append}
use Rattle.std.specs.List.{All}
use Rattle.std.proofs.lemmas.Bool.Decides.{nat_tests}
use Rattle.std.proofs.lemmas.List.{append-nil, get_or_append_left}
use Rattle.std.proofs.lemmas.List.Elements.{All-head, All-tail, All-append, All-weaker}
use Rattle.map_entry.specs.declared.entry.Entry.{Entry}
use Rattle.map_entry.specs.Entry.{due}
use Rattle.map_entry.proofs.Tick.{claim_before_first_tick}
use Rattle.claim_rule.specs.declared.plan.Plan.{Plan}
use Rattle.claim_rule.specs.declared.view.Draw.{Draw}
use Rattle.claim_rule.specs.declared.view.Sight.{Sight}
use Rattle.claim_rule.specs.Claims.{tick_of, claims_at, outputs_of, begin, IsTimely}
use Rattle.claim_rule.specs.Views.{Begins, draw, late, IsSight}
use Rattle.claim_rule.specs.Rule.{IsGood, Rises}

-- ---- what a list begins with

pub begins_same : {A : Type 0} (xs : List A) → Begins xs xs
begins_same xs = ([], sym (append-nil xs))

pub begins_more : {A : Type 0} (xs ys new : List A) → Begins xs ys → Begins xs (ys ++ new)
begins_more {A} xs ys new b =
    (b.0 ++ new, ap (λ (l : List A). l ++ new) b.1 ∙ append_assoc xs b.0 new)

pub begins_at : {A : Type 0} (xs list : List A) (i : ℕ) (d : A) → Begins xs list → i < length xs
    → get_or list i d ≡ get_or xs i d
begins_at {A} xs list i d b lt = ap (λ (l : List A). get_or l i d) b.1
    ∙ get_or_append_left xs b.0 d i lt

pub begins_length : {A : Type 0} (xs list : List A) → Begins xs list → length xs ≤ length list
begins_length xs list b = let e = ap length b.1 ∙ length-append xs b.0 in omega arith

-- ---- states seen

sight_more : (n d m e : ℕ) → n ≤ m → d ≤ e → (x : Sight) → IsSight n d x → IsSight m e x
sight_more n d m e ln ld x s = let a = s.raw in let b = s.entries in
    record { raw = omega arith; entries = omega arith }

pub sights_more : (n d m e : ℕ) → n ≤ m → d ≤ e → (xs : List Sight) → All (IsSight n d) xs
    → All (IsSight m e) xs
sights_more n d m e ln ld xs all = All-weaker (IsSight n d) (IsSight m e) (sight_more n d m e ln ld)
    xs all

-- ---- draws

pub late_most : (plan : Plan) (n : ℕ) (found : List Entry) → late plan (draw n found) ≤ 1
late_most plan n found = grind (arith, nat_tests)

-- a draw past the packets is counted as one
pub late_counts : (packets n t : ℕ) → n ≤ packets + t
    → n + 1 ≤ packets + (t + cond (nat_le packets n) 1 0)
late_counts packets n t h = grind (arith, nat_tests)

pub good_drawn : (plan : Plan) (list : List Entry) (drawn : ℕ) (d : Draw) → IsGood plan list drawn d
    → IsGood plan list (drawn + 1) d
good_drawn plan list drawn d g = let b = g.below in
    record { below = omega arith; rest = g.rest; front = g.front; later = g.later }

-- entries of a given number of claims, whose ticks have not begun, count from ticks after those of
-- all draws before
later_ticks : (plan : Plan) (drawn : ℕ) (new : List Entry) (number : ℕ) → 0 < outputs_of plan
    → number < drawn → number < plan.packets
    → All (λ e. e.at ≡ claims_at plan drawn) new → All (IsTimely plan) new
    → All (λ e. tick_of plan number < e.tick) new
later_ticks plan drawn new number some below early ats timely i d lt =
    let at = ats i d lt in let t = timely i d lt in let e : Entry = get_or new i d in
    let less : tick_of plan number < begin plan e.at =
    claim_before_first_tick plan.setup.device.base (outputs_of plan) (plan.from + number) e.at some
    (omega arith) in
    omega arith

pub good_published : (plan : Plan) (list new : List Entry) (drawn : ℕ) → 0 < outputs_of plan
    → All (λ e. e.at ≡ claims_at plan drawn) new
    → All (IsTimely plan) new → (d : Draw) → IsGood plan list drawn d
    → IsGood plan (list ++ new) drawn d
good_published plan list new drawn some ats timely d g = record {
  below = g.below;
  rest = g.rest ++ new;
  front = ap (λ (l : List Entry). l ++ new) g.front ∙ append_assoc d.found g.rest new;
  later = λ early. All-append (λ (e : Entry). tick_of plan d.number < e.tick) g.rest new
      (g.later early)
      (later_ticks plan drawn new d.number some g.below early ats timely);
}

-- ---- the claims at the entries' publication

pub rises_more : (low high higher : ℕ) (list : List Entry) → high ≤ higher → Rises low list high
    → Rises low list higher
rises_more low high higher [] le r = omega arith
rises_more low high higher (e ∷ es) le r = (r.0, rises_more e.at high higher es le r.1)

pub rises_append : (low high : ℕ) (xs ys : List Entry) → Rises low xs high
    → All (λ e. e.at ≡ high) ys → Rises low (xs ++ ys) high
rises_append low high [] [] r all = r
rises_append low high [] (y ∷ ys) r all =
    let here : y.at ≡ high = All-head (λ (e : Entry). e.at ≡ high) y ys all in (
      omega arith,
      rises_append y.at high [] ys (omega arith) (All-tail (λ (e : Entry). e.at ≡ high) y ys all),
    )
rises_append low high (x ∷ xs) ys r all = (r.0, rises_append x.at high xs ys r.1 all)
