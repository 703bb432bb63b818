use Rattle.std.proofs.Common.{◌≡◌, ℕ, ◌*◌, ◌<◌, take, drop, length, get_or, pos}
use Rattle.std.specs.Prelude.{All}
use Rattle.io_caps.specs.Rate.{bytes_per_sample}
use Rattle.rtp_pcm.specs.Pcm.{IsSample, sample_of}
use Rattle.block_builder.proofs.slot.put_samples.Given as goal

abbrev pub invariant-loop-place : goal.invariant-loop-place
invariant-loop-place l =
    let size = bytes_per_sample l.width in
    record {
      long : length l.out ≡ length l.fn.out;
      read : (k : ℕ) → k < l.place → get_or l.out k (pos 0)
          ≡ sample_of l.width (take size (drop (k * size) l.payload));
      range : All IsSample l.out;
    }
