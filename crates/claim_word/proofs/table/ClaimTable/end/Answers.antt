use Rattle.std.proofs.Common.{◌≡◌, ◌+◌, List, ◌++◌, true, map, length, sym, ap, ◌∙◌, subst, arith}
use Rattle.std.specs.List.{list_any}
use Rattle.map_entry.specs.declared.entry.Entry.{Entry}
use Rattle.claim_rule.specs.declared.plan.Plan.{Plan}
use Rattle.claim_rule.specs.declared.view.View.{View}
use Rattle.claim_rule.specs.declared.view.Draw.{Draw}
use Rattle.claim_rule.specs.declared.view.Sight.{Sight}
use Rattle.claim_rule.specs.Claims.{plan_of}
use Rattle.claim_rule.specs.Ends.{Ends}
use Rattle.claim_rule.proofs.Ends.{ends_so}
use Rattle.claim_word.specs.Claims.{HasOver}
use Rattle.claim_word.specs.Endings.{claims_by, draws_in, seen_in, with_clients, with_workers}
use Rattle.claim_word.specs.Faces.{ClientFace, PassFace, PublisherFace, TableFace}
use Rattle.claim_word.proofs.Ending.{numbers_once, over_full}
use Rattle.claim_word.proofs.table.ClaimTable.end.Goals as goal

pub returns : goal.returns
returns c =
    let p = c.publisher.invariant.0 in let v : View = c.publisher.inside.seat.me.0 in
    let face : PublisherFace = c.args.publisher in
    let key = c.self.inside.table.shared.key in let w : View = c.take_all.new.seat.me.0 in
    let ws : List PassFace = c.args.workers in let cs : List ClientFace = c.args.clients in
    let view : v ≡ face.view = ap (λ (z : PublisherFace). z.view) c.publisher.view_is in
    let plan : plan_of key ≡ c.args.self.plan = ap (λ (z : TableFace). z.plan) c.self.view_is in
    let own : v.plan ≡ c.args.self.plan = ap (λ (u : View). u.plan) view
    ∙ c.requires.publisher.plan_is in
    let now : w ≡ with_workers (with_clients v cs) ws =
    c.take_all.ensures.view
    ∙ ((λ k. with_workers (c.hear_all.ensures.view k) (c.into_vec-2.ensures k))
    ∙ ap (λ (l : List ClientFace). with_workers (with_clients v l) ws) c.into_vec.ensures) in
    let whole : w.parts ≡ key.workers =
    let a : w.parts ≡ v.parts + length ws = ap (λ (u : View). u.parts) now in let b = p.parts in
    let n = c.requires.workers.1 in
    let m : c.publisher.inside.made ≡ face.made =
    ap (λ (z : PublisherFace). z.made) c.publisher.view_is in
    let k : v.plan.workers ≡ key.workers = ap (λ (q : Plan). q.workers) (own ∙ sym plan) in
    omega arith in
    let e = ends_so key c.take_all.new.seat.id w _ _ (ap (λ (u : View). u.publishes) now ∙ p.loud)
    whole c.close_with.ensures.values.2 in
    let entries : w.entries ≡ face.view.entries =
    ap (λ (u : View). u.entries)
    (now ∙ ap (λ (u : View). with_workers (with_clients u cs) ws) view) in
    let draws : w.draws ≡ draws_in ws = ap (λ (u : View). u.draws) now
    ∙ ap (λ (l : List Draw). l ++ draws_in ws) p.none_drawn in
    let sights : w.sights ++ w.told ≡ face.view.sights ++ (face.view.told ++ seen_in cs) =
    ap (λ (u : View). u.sights ++ u.told)
    (now ∙ ap (λ (u : View). with_workers (with_clients u cs) ws) view) in
    let known = subst (λ (z : Plan × List Entry × List Draw × List Sight). Ends z.0 z.1 z.2 z.3)
    (λ k. (plan k, entries k, draws k, sights k)) e in
    let claims : c.from_vec.result ≡ map (claims_by c.args.self.plan) ws =
    c.from_vec.ensures
    ∙ (c.take_all.ensures.lists
    ∙ ((λ k. c.publisher.invariant.3.0 k ++ map (claims_by c.args.self.plan)
    (c.into_vec-2.ensures k)))) in
    record {
      entries = c.into_entries.ensures ∙ (sym p.entries_are ∙ ap (λ (u : View). u.entries) view);
      claims = claims;
      ends = known;
      numbers = numbers_once c.args.self.plan (length (draws_in ws)) ws c.from_vec.result claims
          known.once;
      full = λ any.
          over_full c.args.self.plan.packets (length (draws_in ws)) (draws_in ws)
          (subst (λ (l : List PassFace). list_any (λ (x : PassFace). x.ended) l ≡ true
          → HasOver c.args.self.plan.packets (draws_in l)) c.into_vec-2.ensures
          c.take_all.ensures.over any)
          known.once;
    }
