use Rattle.std.proofs.Common.{◌≡◌, ◌≤◌, ◌+◌, ◌-◌, ◌*◌, ℤ, length, get_or, ap, ◌∙◌, rules, arith}
use Rattle.std.proofs.Common.{w32, pos, ℕ}
use Rattle.std.proofs.lemmas.Int.{to_z-of_z}
use Rattle.std.proofs.lemmas.List.{get_or_default}
use mir.Val.{SFits}
use Rattle.io_caps.specs.Rate.{bytes_per_sample}
use Rattle.rtp_pcm.specs.Pcm.{bytes_of_sample}
use Rattle.rtp_pcm.proofs.PcmLaws.{length-bytes_of_sample}
use Rattle.packet_writer.proofs.Slots.{frame_put, others_kept, place_within}
use Rattle.packet_writer.proofs.column.put_each.Goals as goal

pub loop-frame-preserved : goal.loop-frame-preserved
loop-frame-preserved c =
    let width = c.args.width in
    let frame = c.loop-frame.frame in
    let samples = c.args.samples.now in
    let place = frame * c.args.cells + c.args.cell in
    let w = bytes_per_sample width in
    let n = c.bytes-bytes.result in
    let at : place * n ≡ place * w = ap (λ (x : ℕ). place * x) c.bytes-bytes.ensures in
    let k : place * n + n - place * n ≡ w = omega (arith, c.bytes-bytes.ensures) in
    let in_out : place * n ≤ length c.loop-frame.out =
    omega (
      arith,
      at,
      place_within w c.args.cells c.args.cell frame (length samples)
          c.loop-frame-test.true c.requires.cell,
      c.requires.room,
      c.loop-frame.invariant.len,
    ) in
    let long : length c.put_bits.new.out ≡ w = ap length c.put_bits.ensures
    ∙ length-bytes_of_sample width _ in
    let fits : SFits w32 (get_or samples frame (pos 0)) = search rules in
    let here = λ (d : ℤ). c.put_bits.ensures
    ∙ ap (bytes_of_sample width) (to_z-of_z w32 (get_or samples frame (pos 0)) fits
    ∙ get_or_default samples frame (pos 0) d c.loop-frame-test.true) in
    record {
      len = search rules;
      put = frame_put w c.args.cells c.args.cell frame _ _ c.loop-frame.out c.put_bits.new.out
          (λ f d. bytes_of_sample width (get_or samples f d)) c.requires.cell at k in_out long
          c.loop-frame.invariant.put here;
      kept = λ p other. others_kept w c.args.cells c.args.cell frame _ _ p c.loop-frame.out
          c.put_bits.new.out c.requires.cell at k in_out long other
          ∙ c.loop-frame.invariant.kept p other;
    }
