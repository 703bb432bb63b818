use Rattle.std.proofs.Common.{ℕ, ◌≡◌, List, [], ◌∷◌, ◌++◌, true, map, length, sym, ap, ◌∙◌, subst}
use Rattle.std.proofs.Common.{arith, append_assoc, length-append}
use Rattle.std.proofs.lemmas.List.{append-nil, map-append, nil_from_length}
use Rattle.std.specs.List.{list_any}
use Rattle.claim_rule.specs.declared.plan.Plan.{Plan}
use Rattle.claim_rule.specs.declared.view.View.{View}
use Rattle.claim_rule.specs.Views.{taken_in}
use Rattle.claim_rule.proofs.Seats.{takes_in_keeps}
use Rattle.claim_word.specs.Claims.{claims_of, HasOver}
use Rattle.claim_word.specs.Faces.{PassFace, IsPassOf}
use Rattle.claim_word.specs.Endings.{claims_by, draws_in, with_workers}
use Rattle.claim_word.proofs.Ending.{one_of_all, over_more, with_worker}
use Rattle.claim_word.proofs.end.take_all.Goals as goal
use Rattle.claim_word.proofs.end.take_all.Goals.{In-Some, In-None}

-- the pass, between those before and those to come
apart : (c : In-Some)
    → c.loop-pass.yielded ++ c.in-Some.pass ∷ c.next.new.self.rest.items ≡ c.args.workers.items
apart c = ap (λ (l : List PassFace). c.loop-pass.yielded ++ l) (sym c.in-Some.ensures.steps.0)
    ∙ c.loop-pass.invariant.split

its : (c : In-Some) → IsPassOf c.args.table.now c.in-Some.pass
its c = one_of_all (IsPassOf c.args.table.now) c.args.workers.items c.loop-pass.yielded
    c.next.new.self.rest.items c.in-Some.pass c.requires.workers (apart c)

pub join_seat-requires : goal.join_seat-requires
join_seat-requires c =
    let at = (goal.at.join_seat-requires c).In-Some in
    let own = sym (ap (λ z. z.id) c.table.view_is) in (
      c.loop-pass.invariant.table ∙ (c.requires.table ∙ own),
      ap (λ z. z.id) c.pass.view_is ∙ ((its at).id_is ∙ own),
      c.pass.invariant.2,
      omega (arith, c.table.invariant.1),
      takes_in_keeps c.table.inside.table.shared.key _ _ _ _,
    )

pub push_reserved-requires : goal.push_reserved-requires
push_reserved-requires c =
    let i = c.loop-pass.invariant in
    let g = ap length (apart (goal.at.push_reserved-requires c).In-Some) in
    let l = length-append c.loop-pass.yielded (c.in-Some.pass ∷ c.next.new.self.rest.items) in
    let r = c.requires.room in let n = i.count in let k = i.room in omega arith

pub loop-pass-preserved : goal.loop-pass-preserved
loop-pass-preserved c =
    let at = (goal.at.loop-pass-preserved c).In-Some in
    let i = c.loop-pass.invariant in let j = c.join_seat.ensures in
    let v : View = c.args.seat.now.me.0 in
    let w : View = c.pass.inside.seat.me.0 in let ys : List PassFace = c.loop-pass.yielded in
    let p : PassFace = c.in-Some.pass in let plan : Plan = c.args.table.now.plan in
    let is : w ≡ p.view = ap (λ z. z.view) c.pass.view_is in
    let own : p.view.plan ≡ plan = (its at).plan_is in
    let ended : c.pass.inside.ended ≡ p.ended = ap (λ z. z.ended) c.pass.view_is in
    let push = c.push_reserved.ensures in let worker = c.pass.invariant.0 in
    let claims : c.from_vec.result ≡ claims_by plan p =
    c.from_vec.ensures
    ∙ (worker.claims_are
    ∙ (ap (λ (u : View). claims_of u.plan u.draws) is
    ∙ ap (λ (q : Plan). claims_of q p.view.draws) own)) in
    record {
      can = tt;
      finite = tt;
      split = append_assoc ys (p ∷ []) c.next.new.self.rest.items ∙ apart at;
      table = j.0 ∙ i.table;
      id = j.1 ∙ i.id;
      slots = ap (λ m. m.1) j.2 ∙ i.slots;
      view = ap (λ m. m.0) j.2
          ∙ (ap (λ (u : View). taken_in u w) i.view
          ∙ with_worker v ys p w is (sym (ap (λ (u : View). u.parts) is) ∙ worker.part));
      lists = push.items
          ∙ ((λ k. i.lists k ++ claims k ∷ [])
          ∙ (append_assoc c.args.lists.now.items (map (claims_by plan) ys) (claims_by plan p ∷ [])
          ∙ ap (λ (l : List (List ℕ)). c.args.lists.now.items ++ l)
          (sym (map-append (claims_by plan) ys (p ∷ [])))));
      room = push.capacity ∙ i.room;
      count = let n = i.count in let l = push.len in let g = length-append ys (p ∷ []) in
          omega arith;
      over = over_more plan.packets ys p i.over
          (λ e.
          let o = worker.over (ended ∙ e) in
          subst (λ (z : ℕ × View). HasOver z.0 z.1.draws)
          (λ k. (
            (ap (λ (u : View). u.plan.packets) is ∙ ap (λ (q : Plan). q.packets) own) k,
            is k,
          )) o);
    }

-- all passes were yielded
all : (c : In-None) → c.loop-pass.yielded ≡ c.args.workers.items
all c =
    let ys : List PassFace = c.loop-pass.yielded in
    let nil : c.loop-pass.pass-iterator.rest.items ≡ [] =
    nil_from_length c.loop-pass.pass-iterator.rest.items
    (sym c.loop-pass.pass-iterator.rest.ok.0 ∙ c.in-None.ensures.steps.0) in
    sym (append-nil ys)
    ∙ (ap (λ (l : List PassFace). ys ++ l) (sym nil) ∙ c.loop-pass.invariant.split)

pub returns-clause-view : goal.returns-clause-view
returns-clause-view c = c.loop-pass.invariant.view
    ∙ ap (with_workers c.args.seat.now.me.0) (all (goal.at.returns-clause-view c).In-None)

pub returns-clause-lists : goal.returns-clause-lists
returns-clause-lists c =
    c.loop-pass.invariant.lists
    ∙ ap (λ (l : List PassFace). c.args.lists.now.items ++ map (claims_by c.args.table.now.plan) l)
    (all (goal.at.returns-clause-lists c).In-None)

pub returns-clause-over : goal.returns-clause-over
returns-clause-over c =
    subst (λ (l : List PassFace). list_any (λ (w : PassFace). w.ended) l ≡ true
    → HasOver c.args.table.now.plan.packets (draws_in l))
    (all (goal.at.returns-clause-over c).In-None) c.loop-pass.invariant.over
