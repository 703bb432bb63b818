use Rattle.std.proofs.Common.{ℕ, ◌+◌, ◌/◌, ◌%◌, ◌^◌, min, ◌∙◌, sym, ap, subst, arith}
use Rattle.claim_rule.specs.declared.view.View.{View}
use Rattle.claim_rule.proofs.Steps.{sees_keeps}
use Rattle.claim_word.specs.declared.state.State.{State}
use Rattle.claim_word.specs.States.{HasSeen}
use Rattle.claim_word.proofs.Publishing.{has_seen}
use Rattle.claim_word.proofs.publisher.Publisher.state.Goals as goal

pub load-word-requires : goal.load-word-requires
load-word-requires c = (
  ap (λ z. z.id) c.self.view_is ∙ (c.requires.id_is ∙ sym (ap (λ z. z.id) c.table.view_is)),
  omega (arith, c.table.invariant.1),
  sees_keeps c.table.inside.table.shared.key _ _ _,
)

pub returns-clause-seen : goal.returns-clause-seen
returns-clause-seen c =
    let p = c.self.invariant.0 in let v : View = c.self.inside.seat.me.0 in
    let told = c.load-word.ensures.2 in
    let raw : ℕ = c.load-word.result % 2 ^ 32 in let span = p.span_is in
    let look : State =
    record {
      raw = raw;
      claims = c.self.inside.span.from + min raw c.self.inside.span.packets;
      entries = c.load-word.result / 2 ^ 32;
    } in
    let has = has_seen v look (λ k. span.from_is k + min raw (span.packets_is k))
    (told.1.own p.loud) in
    subst (λ (z : View × State). HasSeen z.0 z.1)
    (λ k. (ap (λ m. m.0) (sym told.0) k, sym c.state.ensures k)) has
