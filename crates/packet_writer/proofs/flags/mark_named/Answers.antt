use Rattle.std.proofs.Common.{ap, ◌∙◌, arith}
use Rattle.std.specs.Prelude.{Bool, ◌||◌}
use Rattle.packet_writer.specs.Flags.{row_names}
use Rattle.packet_writer.proofs.Marks.{piece_named}
use Rattle.packet_writer.proofs.flags.mark_named.Goals as goal

pub loop-frame-preserved : goal.loop-frame-preserved
loop-frame-preserved g c =
    let piece = c.piece-piece.result in
    let rows = g.R.FrameRows.row_of c.args.rows.now in
    record {
      within = c.piece-piece.ensures.ends;
      len = c.mark_row.ensures.len ∙ c.loop-frame.invariant.len;
      each = λ input there.
          c.mark_row.ensures.each input (omega (arith, there, c.loop-frame.invariant.len))
          ∙ ap (λ (so_far : Bool). so_far || row_names input piece.row.now)
          (c.loop-frame.invariant.each input there)
          ∙ piece_named rows piece.row.now c.loop-frame.frame piece.upto input
          c.piece-piece.ensures.goes_on c.piece-piece.ensures.row;
    }
