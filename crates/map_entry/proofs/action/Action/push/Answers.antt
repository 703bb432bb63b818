use Rattle.std.proofs.Common.{subst}
use Rattle.map_entry.specs.Action.{IsOutputChange}
use Rattle.map_entry.proofs.Ascending.{IsAction-push}
use Rattle.map_entry.proofs.action.Action.push.Goals as goal

pub invariant_of-self-2 : goal.invariant_of-self-2
invariant_of-self-2 c =
    let channels : IsOutputChange c.args.change = subst IsOutputChange c.change.view_is c.change.invariant in
    let behind = rw (← c.self.view_is) at c.requires in
    rw c.in_ok-push.ensures.ok (IsAction-push c.self.inside.changes c.args.change c.self.invariant channels behind)
