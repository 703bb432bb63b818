use Rattle.std.proofs.Common.{◌≡◌, ℕ, ◌+◌, ◌*◌, ◌≤◌, Bool, true, true≢false, length, ◌++◌, sym}
use Rattle.std.proofs.Common.{ap, ◌∙◌, subst, arith}
use Rattle.std.specs.Prelude.{if◌then◌else◌, is_ok}
use Rattle.list_laws.proofs.Parts.{part_within}
use Rattle.packet_worker.specs.declared.rows.TheConstants.{MOST_CELLS}
use Rattle.packet_worker.specs.Rows.{RowsFace}
use Rattle.packet_worker.proofs.Pieces.{kept_count, kept_more}
use Rattle.packet_worker.proofs.rows.PacketRows.push.Goals as goal

pub push_reserved-requires : goal.push_reserved-requires
push_reserved-requires c =
    let n = kept_count c.self.inside.channels c.self.inside.uptos.items c.self.inside.cells.items
    c.args.self.now c.self.view_is in
    let room = c.self.invariant.uptos_room in
    omega (arith, n, room, c.requires.few)

pub prove-unreachable-requires : goal.prove-unreachable-requires
prove-unreachable-requires c =
    let n = kept_count c.self.inside.channels c.self.inside.uptos.items c.self.inside.cells.items
    c.args.self.now c.self.view_is in
    let room = c.self.invariant.cells_room in
    let long = c.self.invariant.long in
    let same : c.self.inside.channels ≡ c.args.self.now.channels =
    ap (λ (z : RowsFace). z.channels) c.self.view_is in
    let all : length c.self.inside.uptos.items * c.self.inside.channels + c.self.inside.channels
    ≤ MOST_CELLS =
    subst (λ (z : ℕ × ℕ). z.0 * z.1 + z.1 ≤ MOST_CELLS) (λ k. (n k, sym same k))
    (let part = part_within (length c.args.self.now.pieces + 1) (length c.args.self.now.pieces)
    c.args.self.now.channels (omega arith) in omega (arith, part, c.requires.room)) in
    true≢false (sym (c.extend_from_slice-added.ensures.succeeds
    (omega (arith, long, room, all, same, c.requires.row)))
    ∙ (sym c.is_ok.ensures.value ∙ c.if-prove.true))

pub returns : goal.returns
returns c =
    let ok : is_ok c.extend_from_slice-added.result ≡ true =
    sym c.is_ok.ensures.value ∙ c.if-prove.false in
    let same : c.self.inside.channels ≡ c.args.self.now.channels =
    ap (λ (z : RowsFace). z.channels) c.self.view_is in
    kept_more c.self.inside.channels c.self.inside.uptos.items c.self.inside.cells.items
    c.args.self.now c.self.view_is c.push_reserved.new.self.items
    c.extend_from_slice-added.new.self.items c.args.row.now c.args.upto
    c.push_reserved.ensures.items
    (c.extend_from_slice-added.ensures.items
    ∙ ap (λ (b : Bool). if b then c.self.inside.cells.items ++ c.args.row.now
    else c.self.inside.cells.items) ok)
    c.self.invariant.long (c.requires.row ∙ sym same)
