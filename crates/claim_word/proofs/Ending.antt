-- How the passes come back.
use Rattle.std.proofs.Common.{◌≡◌, ℕ, ◌+◌, ◌-◌, ◌<◌, ◌≤◌, ◌==◌, nat_le, cond, Bool, true, false}
use Rattle.std.proofs.Common.{List, [], ◌∷◌, ◌++◌, map, length, get_or, min, refl, sym, ap, ◌∙◌}
use Rattle.std.proofs.Common.{subst, arith, append_assoc, length-append, zero-add}
use Rattle.std.specs.Prelude.{◌||◌, ◌&&◌, eqb, nat_lt, filter, count_by}
use Rattle.std.specs.List.{All, list_any}
use Rattle.std.proofs.lemmas.Bool.Decides.{nat_tests}
use Rattle.std.proofs.lemmas.List.{append-nil, get_or_at}
use Rattle.std.proofs.lemmas.List.Folds.{list_any-append}
use Rattle.std.proofs.lemmas.List.Sums.{sum_by-append, sum_by-cons}
use Rattle.claim_rule.specs.declared.plan.Plan.{Plan}
use Rattle.claim_rule.specs.declared.view.View.{View}
use Rattle.claim_rule.specs.declared.view.Draw.{Draw}
use Rattle.claim_rule.specs.declared.view.Sight.{Sight}
use Rattle.claim_rule.specs.Views.{is_at, times, once_below, noted, taken_in}
use Rattle.claim_word.specs.Claims.{claims_of, is_packet, HasOver}
use Rattle.claim_word.specs.Endings.{claims_by, draws_in, once_claimed, seen_in, times_claimed}
use Rattle.claim_word.specs.Endings.{with_clients, with_workers}
use Rattle.claim_word.specs.Faces.{PassFace, ClientFace}

-- ---- one pass more

pub one_of_all : {X : Type 0} (P : X → Type 0) (xs ys zs : List X) (x : X) → All P xs
    → ys ++ x ∷ zs ≡ xs → P x
one_of_all {X} P xs ys zs x all is =
    let at : get_or xs (length ys) x ≡ x = ap (λ (l : List X). get_or l (length ys) x) (sym is)
    ∙ get_or_at ys x zs x (length ys) refl in
    let long : length xs ≡ length ys + length (x ∷ zs) = ap length (sym is)
    ∙ length-append ys (x ∷ zs) in
    subst P at (all (length ys) x (omega arith))

draws_push : (ws : List PassFace) (w : PassFace)
    → draws_in ws ++ w.view.draws ≡ draws_in (ws ++ w ∷ [])
draws_push [] w = sym (append-nil w.view.draws)
draws_push (x ∷ ws) w = append_assoc x.view.draws (draws_in ws) w.view.draws
    ∙ ap (λ (ds : List Draw). x.view.draws ++ ds) (draws_push ws w)

seen_push : (cs : List ClientFace) (c : ClientFace)
    → seen_in cs ++ (c.view.sights ++ c.view.told) ≡ seen_in (cs ++ c ∷ [])
seen_push [] c = sym (append-nil (c.view.sights ++ c.view.told))
seen_push (x ∷ cs) c =
    append_assoc (x.view.sights ++ x.view.told) (seen_in cs) (c.view.sights ++ c.view.told)
    ∙ ap (λ (ss : List Sight). (x.view.sights ++ x.view.told) ++ ss) (seen_push cs c)

pub with_no_worker : (v : View) → v ≡ with_workers v []
with_no_worker v =
    let a : v.parts ≡ v.parts + 0 = omega arith in let b : v.draws ≡ v.draws ++ [] =
    sym (append-nil v.draws) in
    (λ k. record v { parts = a k; draws = b k })

pub with_worker : (v : View) (ws : List PassFace) (w : PassFace) (u : View) → u ≡ w.view
    → w.view.parts ≡ 1
    → taken_in (with_workers v ws) u ≡ with_workers v (ws ++ w ∷ [])
with_worker v ws w u is one =
    let a : (v.parts + length ws) + u.parts ≡ v.parts + length (ws ++ w ∷ []) =
    let g = length-append ws (w ∷ []) in let o : u.parts ≡ w.view.parts =
    ap (λ (x : View). x.parts) is in omega arith in
    let b : (v.draws ++ draws_in ws) ++ u.draws ≡ v.draws ++ draws_in (ws ++ w ∷ []) =
    ap (λ (x : View). (v.draws ++ draws_in ws) ++ x.draws) is
    ∙ (append_assoc v.draws (draws_in ws) w.view.draws
    ∙ ap (λ (ds : List Draw). v.draws ++ ds) (draws_push ws w)) in
    (λ k. record v { parts = a k; draws = b k })

pub with_no_client : (v : View) → v ≡ with_clients v []
with_no_client v = let a : v.told ≡ v.told ++ [] = sym (append-nil v.told) in
    (λ k. record v { told = a k })

pub with_client : (v : View) (cs : List ClientFace) (c : ClientFace) (u : View) → u ≡ c.view
    → noted (with_clients v cs) u ≡ with_clients v (cs ++ c ∷ [])
with_client v cs c u is =
    let a : (v.told ++ seen_in cs) ++ (u.sights ++ u.told) ≡ v.told ++ seen_in (cs ++ c ∷ []) =
    ap (λ (x : View). (v.told ++ seen_in cs) ++ (x.sights ++ x.told)) is
    ∙ (append_assoc v.told (seen_in cs) (c.view.sights ++ c.view.told)
    ∙ ap (λ (ss : List Sight). v.told ++ ss) (seen_push cs c)) in
    (λ k. record v { told = a k })

-- ---- a pass that is over

over_left : (packets : ℕ) (a b : List Draw) → HasOver packets a → HasOver packets (a ++ b)
over_left packets a b o = record {
  number = o.number;
  late = o.late;
  there = let t = o.there in let s = sum_by-append (is_at o.number) a b in omega arith;
}

over_right : (packets : ℕ) (a b : List Draw) → HasOver packets b → HasOver packets (a ++ b)
over_right packets a b o = record {
  number = o.number;
  late = o.late;
  there = let t = o.there in let s = sum_by-append (is_at o.number) a b in omega arith;
}

-- of passes and one more
over_by : (packets : ℕ) (ws : List PassFace) (w : PassFace) (a b : Bool)
    → list_any (λ (x : PassFace). x.ended) ws ≡ a → w.ended ≡ b → (a || (b || false)) ≡ true
    → (list_any (λ (x : PassFace). x.ended) ws ≡ true → HasOver packets (draws_in ws))
    → (w.ended ≡ true → HasOver packets w.view.draws)
    → HasOver packets (draws_in ws ++ w.view.draws)
over_by packets ws w true b before here some_one left right =
    over_left packets (draws_in ws) w.view.draws (left before)
over_by packets ws w false true before here some_one left right =
    over_right packets (draws_in ws) w.view.draws (right here)
over_by packets ws w false false before here some_one left right = absurd cc

pub over_more : (packets : ℕ) (ws : List PassFace) (w : PassFace)
    → (list_any (λ (x : PassFace). x.ended) ws ≡ true → HasOver packets (draws_in ws))
    → (w.ended ≡ true → HasOver packets w.view.draws)
    → list_any (λ (x : PassFace). x.ended) (ws ++ w ∷ []) ≡ true
    → HasOver packets (draws_in (ws ++ w ∷ []))
over_more packets ws w left right any =
    let split : (list_any (λ (x : PassFace). x.ended) ws || (w.ended || false)) ≡ true =
    sym (list_any-append (λ (x : PassFace). x.ended) ws (w ∷ [])) ∙ any in
    subst (HasOver packets) (draws_push ws w)
    (over_by packets ws w (list_any (λ (x : PassFace). x.ended) ws) w.ended refl refl split left
    right)

-- a number past the packets was drawn, so all packets were
pub over_full : (packets drawn : ℕ) (ds : List Draw) → HasOver packets ds
    → ((number : ℕ) → times number ds ≡ once_below number drawn) → packets ≤ drawn
over_full packets drawn ds o once =
    let there : 0 < once_below o.number drawn =
    (let t = o.there in let e = once o.number in omega arith) in
    let late = o.late in grind (arith, nat_tests)

-- ---- the claims of all passes

-- 1 where a number is that of a draw's claim
abbrev one_claim : Plan → ℕ → Draw → ℕ
one_claim plan k d = cond (is_packet plan d) (cond (eqb k (plan.from + d.number)) 1 0) 0

claims_cons : (plan : Plan) (k : ℕ) (d : Draw) (ds : List Draw) (b : Bool) → is_packet plan d ≡ b
    → count_by (eqb k)
    (map (λ (x : Draw). plan.from + x.number)
    (cond b (d ∷ filter (is_packet plan) ds) (filter (is_packet plan) ds)))
    ≡ cond b (cond (eqb k (plan.from + d.number)) 1 0) 0 + count_by (eqb k) (claims_of plan ds)
claims_cons plan k d ds true is = sum_by-cons (λ (x : ℕ). cond (eqb k x) 1 0) (plan.from + d.number)
    (claims_of plan ds)
claims_cons plan k d ds false is = sym (zero-add (count_by (eqb k) (claims_of plan ds)))

-- whether a claim of the table has the number
abbrev pub in_table : Plan → ℕ → Bool
in_table plan k = nat_le plan.from k && nat_lt k (plan.from + plan.packets)

cond_none : (g : Bool) → 0 ≡ cond {A = ℕ} g 0 0
cond_none true = refl
cond_none false = refl

cond_sum : (g : Bool) (a b : ℕ) → cond g a 0 + cond g b 0 ≡ cond g (a + b) 0
cond_sum true a b = refl
cond_sum false a b = refl

one_time : (from packets k number : ℕ)
    → cond {A = ℕ} (nat_lt number packets) (cond {A = ℕ} (eqb k (from + number)) 1 0) 0
    ≡ cond {A = ℕ} (nat_le from k && nat_lt k (from + packets))
    (cond {A = ℕ} (number == (k - from)) 1 0) 0
one_time from packets k number = grind (arith, nat_tests)

claim_times : (plan : Plan) (k : ℕ) (ds : List Draw)
    → count_by (eqb k) (claims_of plan ds) ≡ cond (in_table plan k) (times (k - plan.from) ds) 0
claim_times plan k [] = cond_none (in_table plan k)
claim_times plan k (d ∷ ds) =
    let x : ℕ = k - plan.from in
    let one : one_claim plan k d ≡ cond (in_table plan k) (is_at x d) 0 =
    one_time plan.from plan.packets k d.number in
    claims_cons plan k d ds (is_packet plan d) refl
    ∙ ((λ i. one i + claim_times plan k ds i)
    ∙ (cond_sum (in_table plan k) (is_at x d) (times x ds)
    ∙ ap (λ (n : ℕ). cond (in_table plan k) n 0) (sym (sum_by-cons (is_at x) d ds))))

pub claimed_times : (plan : Plan) (k : ℕ) (ws : List PassFace)
    → times_claimed k (map (claims_by plan) ws) ≡ cond (in_table plan k)
    (times (k - plan.from) (draws_in ws)) 0
claimed_times plan k [] = cond_none (in_table plan k)
claimed_times plan k (w ∷ ws) =
    let x : ℕ = k - plan.from in
    sum_by-cons (count_by (eqb k)) (claims_by plan w) (map (claims_by plan) ws)
    ∙ ((λ i. claim_times plan k w.view.draws i + claimed_times plan k ws i)
    ∙ (cond_sum (in_table plan k) (times x w.view.draws) (times x (draws_in ws))
    ∙ ap (λ (n : ℕ). cond (in_table plan k) n 0)
    (sym (sum_by-append (is_at x) w.view.draws (draws_in ws)))))

once_by : (from packets drawn k : ℕ)
    → cond {A = ℕ} (nat_le from k && nat_lt k (from + packets))
    (cond {A = ℕ} (nat_le drawn (k - from)) 0 1) 0
    ≡ cond {A = ℕ} (nat_le from k && nat_lt k (from + min drawn packets)) 1 0
once_by from packets drawn k = grind (arith, nat_tests)

pub numbers_once : (plan : Plan) (drawn : ℕ) (ws : List PassFace) (lists : List (List ℕ))
    → lists ≡ map (claims_by plan) ws
    → ((number : ℕ) → times number (draws_in ws) ≡ once_below number drawn) → (k : ℕ)
    → times_claimed k lists ≡ once_claimed plan drawn k
numbers_once plan drawn ws lists is once k =
    ap (times_claimed k) is
    ∙ (claimed_times plan k ws
    ∙ (ap (λ (n : ℕ). cond (in_table plan k) n 0) (once (k - plan.from))
    ∙ once_by plan.from plan.packets drawn k))
