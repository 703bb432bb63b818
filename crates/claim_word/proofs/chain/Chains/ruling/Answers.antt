use Rattle.std.proofs.Common.{◌≡◌, Some, None, refl, sym, ◌∙◌, subst, length, arith}
use Rattle.std.proofs.lemmas.List.{get_or_default}
use Rattle.claim_word.specs.Chains.{track_at, IsChain}
use Rattle.claim_word.proofs.Chaining.{chained_on}
use Rattle.claim_word.proofs.chain.Chains.ruling.Goals as goal

pub returns-clause-chained : goal.returns-clause-chained
returns-clause-chained c =
    let ok = c.args.self.now.next.ok in
    let was : track_at c.args.self.now.tracks.items c.args.output ≡ Some c.in-Some.track =
    sym (get_or_default c.args.self.now.tracks.items c.args.output c.index.result.now None
    c.requires.output) ∙ (sym c.index.ensures ∙ c.in-Some.is) in
    chained_on c.args.heads.now (length c.args.self.now.tracks.items) c.args.self.now _
    c.args.output c.in-Some.track c.last_by-at.result c.requires.chained
    (omega (arith, ok, c.requires.all)) c.requires.output was c.last_by-at.ensures.after
    (subst (λ next. IsChain c.args.heads.now (length next) next c.last_by-at.result)
    c.as_slice.ensures.value c.last_by-at.ensures.chain) c.last_by-at.ensures.last.its refl refl
