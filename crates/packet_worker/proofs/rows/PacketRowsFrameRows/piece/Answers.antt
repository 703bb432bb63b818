use Rattle.std.proofs.Common.{◌*◌, ◌<◌, ◌≤◌, ℕ, List, length, get_or, take, drop, sym, ap, ◌∙◌}
use Rattle.std.proofs.Common.{subst, arith}
use Rattle.std.specs.Prelude.{All}
use Rattle.std.proofs.lemmas.List.{get_or_default}
use Rattle.map_entry.specs.declared.cell.Cell.{Cell}
use Rattle.packet_worker.specs.Rows.{RowsFace, row_in}
use Rattle.packet_worker.proofs.Pieces.{kept_none, kept_row}
use Rattle.packet_worker.proofs.rows.PacketRowsFrameRows.piece.Goals as goal

pub returns-in-Some-clause-row : goal.returns-in-Some-clause-row
returns-in-Some-clause-row c f le lt =
    let n = c.self.inside.channels in
    let uptos = c.self.inside.uptos.items in
    let cells = c.self.inside.cells.items in
    let past : All (λ u. u ≤ c.args.frame) (take c.in-Some.at uptos) =
    subst (λ (l : List ℕ). All (λ u. u ≤ c.args.frame) (take c.in-Some.at l))
    c.deref.ensures.value c.in-Some.ensures.before in
    let there : c.in-Some.at < length uptos =
    subst (λ (l : List ℕ). c.in-Some.at < length l) c.deref.ensures.value c.in-Some.ensures.there in
    let goes : f < get_or uptos c.in-Some.at 0 =
    (let at = get_or_default uptos c.in-Some.at 0 c.index.result.now there in
    omega (arith, lt, c.min.ensures, c.index.ensures, at)) in
    ap (λ (z : RowsFace). row_in z.pieces f) (sym c.self.view_is)
    ∙ (kept_row n uptos cells c.in-Some.at c.args.frame f there past le goes
    ∙ sym (c.row_at.ensures
    ∙ ap (λ (l : List Cell). take n (drop (c.in-Some.at * n) l)) c.deref-in-Some.ensures.value))

pub returns-in-None-clause-row : goal.returns-in-None-clause-row
returns-in-None-clause-row c f le lt =
    ap (λ (z : RowsFace). row_in z.pieces f) (sym c.self.view_is)
    ∙ kept_none c.self.inside.channels c.self.inside.uptos.items c.self.inside.cells.items
    c.args.frame f
    (subst (λ (l : List ℕ). All (λ u. u ≤ c.args.frame) l) c.deref.ensures.value
    c.in-None.ensures.none) le
