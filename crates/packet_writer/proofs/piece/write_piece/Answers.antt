use Rattle.std.proofs.Common.{ℕ, ◌-◌, length, get_or, map, ap, ◌∙◌, arith, rules}
use Rattle.std.specs.List.{range_with_len}
use Rattle.std.proofs.lemmas.List.{get_or_default}
use Rattle.io_caps.specs.Rate.{bytes_per_sample}
use Rattle.map_entry.specs.declared.cell.Cell.TheVariants.{Unrouted}
use Rattle.packet_writer.specs.Heard.{heard}
use Rattle.packet_writer.proofs.Pieces.{piece_more, piece_is}
use Rattle.packet_writer.proofs.piece.write_piece.Goals as goal

pub loop-cell-preserved : goal.loop-cell-preserved
loop-cell-preserved g c =
    let piece = c.args.piece.now in
    let row = piece.row.now in
    let frames = piece.upto - piece.frame in
    let cell = c.loop-cell.cell in
    record {
      len = search rules;
      long = search rules;
      put = λ b agrees.
          piece_more c.args.width (bytes_per_sample c.args.width) (length row) cell piece.frame
          frames (heard c.args.inputs.now b) row c.loop-cell.out c.put_column.new.out
          c.read_cell.new.out (get_or row cell Unrouted) c.loop-cell-test.true
          c.put_column.ensures.kept c.put_column.ensures.put
          (c.read_cell.ensures.len ∙ c.loop-cell.invariant.long)
          (c.read_cell.ensures.value b agrees
          ∙ ap (λ (n : ℕ). map (λ f. heard c.args.inputs.now b f (get_or row cell Unrouted))
          (range_with_len piece.frame n)) c.loop-cell.invariant.long)
          (λ d. get_or_default row cell Unrouted d c.loop-cell-test.true)
          (c.loop-cell.invariant.put b (c.read_cell.ensures.kept b agrees));
      kept = λ b agrees. c.loop-cell.invariant.kept b (c.read_cell.ensures.kept b agrees);
      stays = g.met.S.Samples.onward.on _ _ _ c.loop-cell.invariant.stays c.read_cell.ensures.stays;
    }

pub returns-clause-text : goal.returns-clause-text
returns-clause-text g c = λ b agrees.
    let piece = c.args.piece.now in
    piece_is c.args.width (heard c.args.inputs.now b) piece.row.now piece.frame
    (piece.upto - piece.frame) c.loop-cell.out (c.loop-cell.invariant.len ∙ c.requires.room)
    (λ f k d lf lk. c.loop-cell.invariant.put b agrees f k d lf
    (omega (arith, lk, c.loop-cell-test.false)))
