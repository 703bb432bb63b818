use Rattle.std.proofs.Common.{ℕ, List, length, refl, sym, ap, ◌∙◌, subst, arith}
use Rattle.std.proofs.lemmas.Option.{slice_get_read}
use Rattle.map_entry.specs.declared.cell.Cell.{Cell}
use Rattle.map_entry.specs.Entry.{entry_of, IsEntryOk}
use Rattle.map_entry.specs.Setup.{SetupParts, IsSetup}
use Rattle.map_entry.proofs.Rows.{base_row, rows_long}
use Rattle.packet_worker.proofs.tests.base_entry.Goals as goal

pub bounds-rows-output : goal.bounds-rows-output
bounds-rows-output c =
    let rows = c.as_slice-rows.ensures ∙ ap (λ (s : SetupParts). s.rows) c.setup.view_is in
    let valid = subst IsSetup c.setup.view_is c.setup.invariant in
    omega (arith, c.requires, rows_long c.args.setup.now valid, ap length rows)

pub returns-clause-ok : goal.returns-clause-ok
returns-clause-ok c =
    let s : SetupParts = c.args.setup.now in let o : ℕ = c.args.output in
    let rows = c.as_slice-rows.ensures ∙ ap (λ (x : SetupParts). x.rows) c.setup.view_is in
    let valid = subst IsSetup c.setup.view_is c.setup.invariant in
    let read = slice_get_read s.rows _ o _ refl (omega (arith, c.requires, rows_long s valid))
    (rw rows at c.index-rows-output.is) in
    subst (IsEntryOk s.device)
    (sym (c.new.ensures ∙ ap (λ (r : List Cell). entry_of o c.base.result 0 r 0)
    c.in_ok-row.ensures))
    (record {
      row = base_row s o c.index-rows-output.result valid read;
      offset = valid.device.bounds.rate.1;
    })
