use Rattle.std.proofs.Common.{refl, subst, ◌∙◌}
use Rattle.map_entry.specs.Setup.{IsSetup}
use Rattle.plain_book.proofs.Base.{desk_new}
use Rattle.live_book.proofs.Overs.{rest_new}
use Rattle.live_book.proofs.rest.Rest.new.Goals as goal

pub carry-requires-clause-desk : goal.carry-requires-clause-desk
carry-requires-clause-desk c =
    desk_new c.args.setup.now _ _ (subst IsSetup c.setup.view_is c.setup.invariant) refl
    c.new.ensures (c.as_slice.ensures ∙ c.in_ok-entries.ensures) refl c.new-2.ensures.items refl
    refl

pub invariant_of-result : goal.invariant_of-result
invariant_of-result c =
    rw c.in_ok-copy.ensures
    (rest_new c.args.setup.now c.as_slice.result.now _ _
    (desk_new c.args.setup.now _ _ (subst IsSetup c.setup.view_is c.setup.invariant) refl
    c.new.ensures (c.as_slice.ensures ∙ c.in_ok-entries.ensures) refl c.new-2.ensures.items refl
    refl) refl refl c.in_ok-base.ensures)
