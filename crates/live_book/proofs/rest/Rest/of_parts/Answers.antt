use Rattle.std.proofs.Common.{sym, subst}
use Rattle.plain_book.specs.Desk.{BookStateParts, from_claims, parts}
use Rattle.live_book.specs.Books.{IsRest}
use Rattle.live_book.proofs.Overs.{rest_is}
use Rattle.live_book.proofs.rest.Rest.of_parts.Goals as goal

pub invariant_of-result : goal.invariant_of-result
invariant_of-result c =
    subst (λ (q : BookStateParts). IsRest c.args.setup c.args.base (from_claims q c.args.claims))
    (sym c.look.ensures.parts)
    (rest_is c.args.setup c.args.claims c.requires.desk.0 c.args.base (parts c.args.kept)
    c.requires.desk.1 c.requires.base)
