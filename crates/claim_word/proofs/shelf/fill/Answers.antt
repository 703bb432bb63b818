use Rattle.std.proofs.Common.{◌≡◌, length, ap, subst, arith}
use Rattle.claim_word.proofs.Reading.{AreSame, same_whole}
use Rattle.claim_word.proofs.shelf.fill.Goals as goal

pub returns : goal.returns
returns c =
    let i = c.loop-at.invariant in
    let whole : c.loop-at.at ≡ length c.loop-at.row = let a = c.loop-at-test.false in
    let b = c.loop-at.auto in let l = i.long in let m = ap length c.as_slice-cells.ensures in
    omega arith in
    same_whole c.loop-at.row c.args.model.now i.long
    (subst (AreSame c.loop-at.row c.args.model.now) whole i.same)
