use Rattle.std.proofs.Common.{◌≡◌, ◌∙◌, ◌-◌, ◌<◌, length, refl, sym, Some, arith}
use Rattle.std.specs.Prelude.{slice_get}
use Rattle.std.proofs.lemmas.Option.{slice_get_read}
use Rattle.interleavings.proofs.Putting.{behind_none, behind_one, put_there}
use Rattle.interleavings.proofs.asking.place.Goals as goal

pub returns-else-comes_before-clause-put : goal.returns-else-comes_before-clause-put
returns-else-comes_before-clause-put c =
    let replies = c.args.replies.now in
    let item = c.args.item.now in
    let at = c.loop-at.at in
    let y = c.index-replies-at.result in
    let lt : at - 1 < length replies =
    omega (arith, c.loop-at.invariant.within, c.loop-at-test.true) in
    let here : slice_get replies (at - 1) ≡ Some y =
    slice_get_read replies _ (at - 1) _ refl lt c.index-replies-at.is in
    put_there replies item at c.requires.order c.loop-at.invariant.within c.loop-at.invariant.before
    (behind_one replies item y at c.loop-at-test.true here
    (sym c.comes_before.ensures ∙ c.if-comes_before.false))

pub returns-after-loop-at-clause-put : goal.returns-after-loop-at-clause-put
returns-after-loop-at-clause-put c =
    let replies = c.args.replies.now in
    let item = c.args.item.now in
    let at = c.loop-at.at in
    put_there replies item at c.requires.order c.loop-at.invariant.within c.loop-at.invariant.before
    (behind_none replies item at c.loop-at-test.false)
