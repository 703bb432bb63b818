use Rattle.std.proofs.Common.{refl, sym, ap, ◌∙◌, length, subst, arith}
use Rattle.map_entry.specs.Setup.{SetupParts, IsSetup}
use Rattle.plain_book.proofs.Base.{desk_new}
use Rattle.plain_book.proofs.Entries.{entries_none}
use Rattle.plain_book.proofs.desk.PlainDesk.new.Goals as goal

pub invariant_of-result : goal.invariant_of-result
invariant_of-result c = (
  omega arith,
  rw c.in_ok-copy.ensures
      (desk_new c.args.setup.now _ _ (subst IsSetup c.setup.view_is c.setup.invariant) refl
      c.new.ensures (c.into_vec-live.ensures ∙ c.in_ok-base_entries.ensures) refl
      c.new-2.ensures.items refl refl),
  rw (c.in_ok-copy.ensures, c.new.ensures)
      (c.in_ok-all.ensures ∙ sym (entries_none c.args.setup.now)),
)
