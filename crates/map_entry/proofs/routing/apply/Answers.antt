use Rattle.std.proofs.Common.{List, length, sym, ap, ◌∙◌, subst}
use Rattle.map_entry.specs.declared.cell.Cell.{Cell}
use Rattle.map_entry.specs.Action.{HasNamedCells, KeepsOtherCells, applied}
use Rattle.map_entry.proofs.Changes.{length-applied, applied-named, applied-kept}
use Rattle.map_entry.proofs.routing.apply.Goals as goal

pub returns-clause-long : goal.returns-clause-long
returns-clause-long c =
    ap length (c.change_row.ensures.value ∙ ap (λ (row : List Cell). applied row c.args.action.now c.args.output) c.in_ok-made.ensures)
    ∙ length-applied c.args.row.now c.args.action.now c.args.output

pub returns-clause-named : goal.returns-clause-named
returns-clause-named c =
    let made = c.change_row.ensures.value ∙ ap (λ (row : List Cell). applied row c.args.action.now c.args.output) c.in_ok-made.ensures in
    subst (HasNamedCells c.args.action.now c.args.output) (sym made)
    (applied-named c.args.row.now c.args.action.now c.args.output c.change_row.ensures.valid c.requires)

pub returns-clause-kept : goal.returns-clause-kept
returns-clause-kept c =
    let made = c.change_row.ensures.value ∙ ap (λ (row : List Cell). applied row c.args.action.now c.args.output) c.in_ok-made.ensures in
    subst (KeepsOtherCells c.args.action.now c.args.output c.args.row.now) (sym made)
    (applied-kept c.args.row.now c.args.action.now c.args.output)
