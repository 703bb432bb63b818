use Rattle.std.proofs.Common.{ℕ, ◌*◌, take, drop, length, pos, ap, ◌∙◌, sym, subst, arith}
use Rattle.std.proofs.lemmas.List.{length-set}
use Rattle.std.proofs.lemmas.List.Elements.{All-set}
use Rattle.std.proofs.lemmas.List.FromFn.{fill_by_all}
use Rattle.io_caps.specs.Rate.{bytes_per_sample}
use Rattle.rtp_pcm.specs.Pcm.{IsSample, sample_of}
use Rattle.block_builder.proofs.Samples.{one_more, stays, part_is}
use Rattle.block_builder.proofs.slot.put_samples.Goals as goal

pub loop-place-preserved : goal.loop-place-preserved
loop-place-preserved c =
    let width = c.args.width in
    let size = bytes_per_sample width in
    let f = λ (k : ℕ). sample_of width (take size (drop (k * size) c.args.payload.now)) in
    let same = stays c.get_sample.result c.get_sample.ensures.range in
    let part = ap (sample_of width)
    (part_is c.args.payload.now c.loop-place.place _ _ c.bytes-bytes.ensures) in
    record {
      long = length-set c.loop-place.out c.loop-place.place _ ∙ c.loop-place.invariant.long;
      read =
          one_more f c.loop-place.out c.loop-place.place _ (pos 0)
          (omega (arith, c.loop-place-test.true, c.loop-place.auto.out))
          (same ∙ c.get_sample.ensures.value ∙ part) c.loop-place.invariant.read;
      range = All-set IsSample c.loop-place.out c.loop-place.place _
          (subst IsSample (sym same) c.get_sample.ensures.range) c.loop-place.invariant.range;
    }

pub returns-clause-value : goal.returns-clause-value
returns-clause-value c =
    let width = c.args.width in
    let size = bytes_per_sample width in
    let f = λ (k : ℕ). sample_of width (take size (drop (k * size) c.args.payload.now)) in
    fill_by_all f c.loop-place.out (length c.args.out.now) (pos 0) c.loop-place.invariant.long
    (λ k lt. c.loop-place.invariant.read k (omega (arith, lt, c.loop-place-test.false)))
