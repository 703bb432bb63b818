use Rattle.std.proofs.Common.{◌≡◌, List, [], ◌∷◌, ◌++◌, sym, ap, ◌∙◌, arith, append_assoc}
use Rattle.std.proofs.lemmas.List.{append-nil, nil_from_length}
use Rattle.claim_rule.specs.declared.view.View.{View}
use Rattle.claim_rule.specs.Views.{noted}
use Rattle.claim_rule.proofs.Seats.{notes_in_keeps}
use Rattle.claim_word.specs.Faces.{ClientFace, IsClientOf}
use Rattle.claim_word.specs.Endings.{with_clients}
use Rattle.claim_word.proofs.Ending.{one_of_all, with_client}
use Rattle.claim_word.proofs.end.hear_all.Goals as goal
use Rattle.claim_word.proofs.end.hear_all.Goals.{In-Some}

-- the pass, between those before and those to come
apart : (c : In-Some)
    → c.loop-pass.yielded ++ c.in-Some.pass ∷ c.next.new.self.rest.items ≡ c.args.clients.items
apart c = ap (λ (l : List ClientFace). c.loop-pass.yielded ++ l) (sym c.in-Some.ensures.steps.0)
    ∙ c.loop-pass.invariant.split

pub join_seat-requires : goal.join_seat-requires
join_seat-requires c =
    let at = (goal.at.join_seat-requires c).In-Some in
    let own = sym (ap (λ z. z.id) c.table.view_is) in
    let of_it = one_of_all (IsClientOf c.args.table.now) c.args.clients.items c.loop-pass.yielded
    c.next.new.self.rest.items c.in-Some.pass c.requires.clients (apart at) in (
      c.loop-pass.invariant.table ∙ (c.requires.table ∙ own),
      ap (λ z. z.id) c.pass.view_is ∙ (of_it.id_is ∙ own),
      c.pass.invariant.1,
      omega (arith, c.table.invariant.1),
      notes_in_keeps c.table.inside.table.shared.key _ _ _ _ c.pass.invariant.0.part,
    )

pub loop-pass-preserved : goal.loop-pass-preserved
loop-pass-preserved c =
    let i = c.loop-pass.invariant in let j = c.join_seat.ensures in
    let v : View = c.args.seat.now.me.0 in let w : View = c.pass.inside.seat.me.0 in
    record {
      can = tt;
      finite = tt;
      split = append_assoc c.loop-pass.yielded (c.in-Some.pass ∷ []) c.next.new.self.rest.items
          ∙ apart (goal.at.loop-pass-preserved c).In-Some;
      table = j.0 ∙ i.table;
      id = j.1 ∙ i.id;
      slots = ap (λ m. m.1) j.2 ∙ i.slots;
      view = ap (λ m. m.0) j.2
          ∙ (ap (λ (u : View). noted u w) i.view ∙ with_client v c.loop-pass.yielded c.in-Some.pass
          w (ap (λ z. z.view) c.pass.view_is));
    }

pub returns-clause-view : goal.returns-clause-view
returns-clause-view c =
    let ys : List ClientFace = c.loop-pass.yielded in
    let nil : c.loop-pass.pass-iterator.rest.items ≡ [] =
    nil_from_length c.loop-pass.pass-iterator.rest.items
    (sym c.loop-pass.pass-iterator.rest.ok.0 ∙ c.in-None.ensures.steps.0) in
    let same : ys ≡ c.args.clients.items = sym (append-nil ys)
    ∙ (ap (λ (l : List ClientFace). ys ++ l) (sym nil) ∙ c.loop-pass.invariant.split) in
    c.loop-pass.invariant.view ∙ ap (with_clients c.args.seat.now.me.0) same
