use Rattle.std.proofs.Common.{◌≡◌, Some, None, arith, sym, ◌∙◌}
use Rattle.std.proofs.lemmas.List.{get_or_default}
use Rattle.claim_word.specs.Chains.{next_at}
use Rattle.claim_word.proofs.Chaining.{first_next}
use Rattle.claim_word.proofs.chain.Chains.upto.Goals as goal

pub returns-in-Some : goal.returns-in-Some
returns-in-Some c =
    let ok = c.args.self.now.next.ok in
    let leads : next_at c.args.self.now.next.items c.args.place ≡ Some c.in-Some.later =
    sym (get_or_default c.args.self.now.next.items c.args.place c.index.result.now None
    (omega (arith, ok, c.requires.all, c.requires.chain.there)))
    ∙ (sym c.index.ensures ∙ c.in-Some.is) in
    first_next c.args.heads.now c.args.self.now.next.items c.args.tick c.args.frame c.args.frames
    c.frame_of.result c.args.place c.in-Some.later c.requires.chain c.requires.rules leads
    c.requires.frame (omega (arith, c.ranges.frames.fits)) c.frame_of.ensures.short
    c.frame_of.ensures.value
