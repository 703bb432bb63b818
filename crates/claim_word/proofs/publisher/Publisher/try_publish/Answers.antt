use Rattle.std.proofs.Common.{ℕ, ◌≡◌, List, length, ◌∙◌, sym, ap, subst, arith}
use Rattle.std.specs.List.{All}
use Rattle.map_entry.specs.declared.entry.Entry.{Entry}
use Rattle.claim_rule.specs.declared.view.View.{View}
use Rattle.claim_rule.specs.Claims.{IsFit}
use Rattle.claim_rule.specs.Views.{added}
use Rattle.claim_rule.specs.Plays.{MayPublish}
use Rattle.claim_rule.proofs.Publishing.{publishes_keeps}
use Rattle.claim_word.specs.Faces.{PublisherFace}
use Rattle.claim_word.specs.Passes.{IsPublisher}
use Rattle.claim_word.specs.States.{ArePublishable, HasSeen}
use Rattle.claim_word.specs.Writings.{IsWide}
use Rattle.claim_word.proofs.Publishing.{all_short, all_wide, claims_few, hit_case, may_publish}
use Rattle.claim_word.proofs.Publishing.{miss_case, missed_keeps, new_fit, published_keeps}
use Rattle.claim_word.proofs.publisher.Publisher.try_publish.Goals as goal
use Rattle.claim_word.proofs.publisher.Publisher.try_publish.Goals.{After-len-count}

-- the publisher's view before
view_is : (c : After-len-count) → c.self.inside.seat.me.0 ≡ c.args.self.now.view
view_is c = ap (λ (z : PublisherFace). z.view) c.self.view_is

seen : (c : After-len-count) → HasSeen c.self.inside.seat.me.0 c.args.seen
seen c = subst (λ (v : View). HasSeen v c.args.seen) (sym (view_is c)) c.requires.seen

may : (c : After-len-count)
    → ArePublishable c.self.inside.seat.me.0.plan.setup c.args.seen.claims
    c.self.inside.seat.me.0.entries c.as_slice-new.result.now
may c = subst (λ (z : View × List Entry). ArePublishable z.0.plan.setup c.args.seen.claims
    z.0.entries z.1) (λ k. (sym (view_is c) k, sym c.as_slice-new.ensures k)) c.requires.entries

-- the new entries fit the plan, and words can spell them
fit : (c : After-len-count) → All (IsFit c.self.inside.seat.me.0.plan) c.as_slice-new.result.now
fit c =
    let v : View = c.self.inside.seat.me.0 in
    let few = claims_few v.plan c.args.seen.raw c.self.invariant.0.sound in
    let s = (seen c).claims in
    new_fit v.plan c.args.seen.claims v.entries c.as_slice-new.result.now (omega arith) (may c)

wide : (c : After-len-count) → All IsWide c.as_slice-new.result.now
wide c = all_wide c.self.inside.seat.me.0.plan c.as_slice-new.result.now c.self.invariant.0.sound
    (fit c)

pub put_entries-requires-clause-wide : goal.put_entries-requires-clause-wide
put_entries-requires-clause-wide c =
    let at = (goal.at.put_entries-requires-clause-wide c).After-len-count in
    let p = c.self.invariant.0 in
    (all_wide c.self.inside.seat.me.0.plan c.self.inside.seat.me.0.entries p.sound p.fits, wide at)

pub compare_exchange_with-found-requires : goal.compare_exchange_with-found-requires
compare_exchange_with-found-requires c =
    let at = (goal.at.compare_exchange_with-found-requires c).After-len-count in
    let put = c.put_entries.ensures in let all = put.wrote in let p = c.self.invariant.0 in
    let v : View = c.self.inside.seat.me.0 in let w : View = c.put_entries.new.seat.me.0 in
    let raw : ℕ = c.args.seen.raw in
    let same : length w.entries ≡ length v.entries = ap (λ (u : View). length u.entries) all.only in
    let count : c.len-count.result ≡ length v.entries = c.len-count.ensures.value
    ∙ sym (ap length p.entries_are) in
    let new : length c.as_slice-new.result.now ≡ length c.args.entries.now =
    ap length c.as_slice-new.ensures in
    let owes = subst (λ (l : List Entry). MayPublish w.plan w l raw) c.as_slice-new.ensures
    (may_publish v w c.as_slice-new.result.now c.args.seen p.sound all (seen at) (may at)) in (
      put.seat.0 ∙ (ap (λ z. z.id) c.self.view_is
          ∙ (c.requires.of.id_is ∙ sym (ap (λ z. z.id) c.table.view_is))),
      omega (arith, c.table.invariant.1),
      publishes_keeps c.table.inside.table.shared.key _ _ c.put_entries.new.seat.me
          c.args.entries.now raw _ _ (ap (λ (u : View). u.publishes) all.only ∙ p.loud)
          (omega arith)
          (omega arith) (omega arith) (ap (λ (u : View). u.live) all.only ∙ p.live) owes,
    )

pub keep_all-requires-clause-short : goal.keep_all-requires-clause-short
keep_all-requires-clause-short c =
    all_short c.as_slice-new.result.now
    (wide (goal.at.keep_all-requires-clause-short c).After-len-count)

pub invariant_of-self : goal.invariant_of-self
invariant_of-self c =
    let at = (goal.at.invariant_of-self c).After-len-count in
    let all = c.put_entries.ensures.wrote in
    let w : View = c.put_entries.new.seat.me.0 in let inside = c.self.inside in
    let told = hit_case _ _ c.compare_exchange_with-found.result _ c.if-found-expected.true
    c.compare_exchange_with-found.ensures.2 in
    let new : List Entry = c.as_slice-new.result.now in
    let now : c.compare_exchange_with-found.new.seat.me.0 ≡ added w new = ap (λ m. m.0) told
    ∙ ap (added w) (sym c.as_slice-new.ensures) in
    let keeps = published_keeps inside.seat.me.0 w inside.span inside.made inside.clients
    inside.shelf new inside.rows c.self.invariant.0 all (fit at) (may at).room in (
      subst (λ (z : View × List Entry). IsPublisher z.0 inside.span inside.made inside.clients z.1
          inside.rows) (λ k. (sym now k, sym c.keep_all.ensures k)) keeps,
      ap (λ m. m.1) told ∙ (c.put_entries.ensures.seat.2 ∙ c.self.invariant.1),
      c.self.invariant.2
          ∙ sym (ap (λ (u : View). u.plan.workers) now
          ∙ ap (λ (u : View). u.plan.workers) all.only),
      c.self.invariant.3,
    )

pub invariant_of-self-else-found-expected : goal.invariant_of-self-else-found-expected
invariant_of-self-else-found-expected c =
    let all = c.put_entries.ensures.wrote in let w : View = c.put_entries.new.seat.me.0 in
    let inside = c.self.inside in
    let told = (miss_case _ _ c.compare_exchange_with-found.result _ c.if-found-expected.false
    c.compare_exchange_with-found.ensures.2).0 in
    let keeps = missed_keeps inside.seat.me.0 w inside.span inside.made inside.clients inside.shelf
    c.as_slice-new.result.now inside.rows _ _ c.self.invariant.0 all in (
      subst (λ (z : View). IsPublisher z inside.span inside.made inside.clients inside.shelf
          inside.rows) (sym (ap (λ m. m.0) told)) keeps,
      ap (λ m. m.1) told ∙ (c.put_entries.ensures.seat.2 ∙ c.self.invariant.1),
      c.self.invariant.2
          ∙ sym (ap (λ m. m.0.plan.workers) told ∙ ap (λ (u : View). u.plan.workers) all.only),
      c.self.invariant.3,
    )
