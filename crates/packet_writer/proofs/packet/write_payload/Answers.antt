use Rattle.std.proofs.Common.{◌≡◌, ◌+◌, ◌-◌, ◌*◌, ◌≤◌, ℕ, List, length, sym, ap, ◌∙◌, rules, arith}
use Rattle.io_caps.specs.Rate.{bytes_per_sample}
use Rattle.map_entry.specs.declared.cell.Cell.{Cell}
use Rattle.rtp_pcm.specs.Pcm.{payload_of}
use Rattle.packet_writer.specs.Heard.{heard, samples_from}
use Rattle.packet_writer.proofs.Parts.{fewer_frames, nothing, part_bytes, part_long, part_there}
use Rattle.packet_writer.proofs.Parts.{rows_more}
use Rattle.packet_writer.proofs.packet.write_payload.Goals as goal

pub loop-frame-init : goal.loop-frame-init
loop-frame-init g c = record {
  within = omega arith;
  len = search rules;
  text = λ b agrees. nothing c.args.output.now.width (c.channels.result * c.bytes.result)
      c.args.out.now;
  kept = λ b agrees. agrees;
  stays = g.met.S.Samples.onward.still c.args.source.now;
}

pub write_piece-requires-clause-row : goal.write_piece-requires-clause-row
write_piece-requires-clause-row g c =
    rw (c.piece-piece.ensures.row c.loop-frame.frame (omega arith) c.piece-piece.ensures.goes_on) at
    (c.requires.rows c.loop-frame.frame c.loop-frame-test.true).1

pub write_piece-requires-clause-room : goal.write_piece-requires-clause-room
write_piece-requires-clause-room g c =
    let a = c.loop-frame.frame in
    let piece = c.piece-piece.result in
    let u = piece.upto in
    let w = bytes_per_sample c.args.output.now.width in
    let cells = length c.args.output.now.labels in
    let later : a ≤ u = omega (arith, c.piece-piece.ensures.goes_on) in
    let frame_len = ap (λ (n : ℕ). n * c.bytes.result) c.channels.ensures
    ∙ ap (λ (n : ℕ). cells * n) c.bytes.ensures in
    let row = ap (λ (x : List Cell). length x)
    (sym (c.piece-piece.ensures.row a (omega arith) c.piece-piece.ensures.goes_on))
    ∙ (c.requires.rows a c.loop-frame-test.true).0 in
    part_long a u c.args.rate.frames cells w (c.channels.result * c.bytes.result) c.loop-frame.out
    later c.piece-piece.ensures.ends frame_len (c.loop-frame.invariant.len ∙ c.requires.room)
    ∙ ap (λ (n : ℕ). (u - n) * cells * w) (sym c.piece-piece.ensures.begins)
    ∙ ap (λ (n : ℕ). (u - piece.frame) * n * w) (sym row)

pub write_piece-requires-clause-blocks : goal.write_piece-requires-clause-blocks
write_piece-requires-clause-blocks g c = λ b agrees input.
    fewer_frames (b input) _ c.piece-piece.result.upto c.args.rate.frames c.piece-piece.ensures.ends
    (c.requires.blocks b (c.loop-frame.invariant.kept b agrees) input)

pub loop-frame-preserved : goal.loop-frame-preserved
loop-frame-preserved g c =
    let a = c.loop-frame.frame in
    let piece = c.piece-piece.result in
    let u = piece.upto in
    let width = c.args.output.now.width in
    let w = bytes_per_sample width in
    let cells = length c.args.output.now.labels in
    let len = c.channels.result * c.bytes.result in
    let frames = c.args.rate.frames in
    let inputs = c.args.inputs.now in
    let rows = g.R.FrameRows.row_of c.args.rows.now in
    let later : a ≤ u = omega (arith, c.piece-piece.ensures.goes_on) in
    let whole : a + (u - a) ≡ u = omega (arith, later) in
    let frame_len : len ≡ cells * w = ap (λ (n : ℕ). n * c.bytes.result) c.channels.ensures
    ∙ ap (λ (n : ℕ). cells * n) c.bytes.ensures in
    let long = c.loop-frame.invariant.len ∙ c.requires.room in
    let at : a * len ≤ length c.loop-frame.out =
    part_there a frames cells w len c.loop-frame.out (omega (arith, c.loop-frame-test.true))
    frame_len long in
    let size : length c.write_piece.new.out ≡ (u - a) * cells * w = c.write_piece.auto.out
    ∙ part_long a u frames cells w len c.loop-frame.out later c.piece-piece.ensures.ends
    frame_len long in
    let end : u * len ≡ a * len + length c.write_piece.new.out =
    omega (arith, size, part_bytes a u cells w len later frame_len) in
    record {
      within = c.piece-piece.ensures.ends;
      len = search rules;
      text = λ b agrees.
          rows_more width (heard inputs b) rows piece.row.now a (u - a) (a * len) (u * len)
          c.loop-frame.out c.write_piece.new.out at
          (λ i from to. c.piece-piece.ensures.row i from (omega (arith, to, whole)))
          (c.loop-frame.invariant.text b (c.write_piece.ensures.kept b agrees))
          (c.write_piece.ensures.text b agrees
          ∙ ap (λ (n : ℕ). payload_of width (samples_from inputs b (λ f. piece.row.now) n (u - n)))
          c.piece-piece.ensures.begins) end _
          ∙ ap (λ (n : ℕ). payload_of width (samples_from inputs b rows 0 n)) whole;
      kept = λ b agrees. c.loop-frame.invariant.kept b (c.write_piece.ensures.kept b agrees);
      stays = g.met.S.Samples.onward.on _ _ _ c.loop-frame.invariant.stays
          c.write_piece.ensures.stays;
    }
