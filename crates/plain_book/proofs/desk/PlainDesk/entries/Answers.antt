use Rattle.std.proofs.Common.{List, subst, sym, ◌∙◌}
use Rattle.map_entry.specs.declared.entry.Entry.{Entry}
use Rattle.plain_book.specs.Desk.{DeskParts}
use Rattle.plain_book.specs.Rows.{AreEntries}
use Rattle.plain_book.specs.Time.{key_at}
use Rattle.plain_book.proofs.Keeping.{has_outputs}
use Rattle.plain_book.proofs.Sound.{entries_are}
use Rattle.plain_book.proofs.desk.PlainDesk.entries.Goals as goal

pub returns-clause-fit : goal.returns-clause-fit
returns-clause-fit c =
    let d = c.self.inside in
    let desk = c.self.invariant.1 in
    subst (λ (z : DeskParts). AreEntries z.setup (key_at z.setup z.setup.device.base)
    c.as_slice.result.now) c.self.view_is
    (subst (λ (es : List Entry). AreEntries d.setup (key_at d.setup d.setup.device.base) es)
    (sym (c.as_slice.ensures ∙ c.self.invariant.2))
    (entries_are d.setup d.kept.seen d.kept.journal desk.setup (has_outputs d.setup desk.setup)
    desk.legal))
