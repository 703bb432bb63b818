-- What a packet shows. (This project's own; a frame's samples stand together in channel order: RFC
-- 3551, section 4.3.)
use Rattle.std.specs.Prelude.{ℕ, ◌+◌, ◌*◌, ◌/◌, ◌==◌, Bool, List, [], ◌∷◌, length, map}
use Rattle.std.specs.Prelude.{take, drop, slice_get, ℤ, unsigned_abs, max}
use Rattle.std.specs.List.{list_all, range_with_len}
use Rattle.std.specs.Option.{option_map_or}
use Rattle.io_caps.specs.Rate.{bytes_per_sample}
use Rattle.io_caps.specs.declared.rate.Width.{Width}
use Rattle.io_caps.specs.declared.rate.Width.TheVariants.{L24}
use Rattle.io_caps.specs.declared.device.DeviceParts.{DeviceParts}
use Rattle.map_entry.specs.Tick.{claim_output, claim_tick}
use Rattle.rtp_pcm.specs.Pcm.{sample_of}
use Rattle.book_words.specs.declared.history.ClaimItem.{ClaimItem}
use Rattle.monitors.specs.declared.packets.Seen.{Seen}

-- the sample at a place of a payload (RFC 3551, section 4.5.11, and RFC 3190, section 4)
abbrev pub sample_in : Width → List ℕ → ℕ → ℤ
sample_in width payload place =
    let size = bytes_per_sample width in
    sample_of width (take size (drop (place * size) payload))

-- the samples of a payload, in order (RFC 3551, section 4.3)
abbrev pub samples_in : Width → List ℕ → List ℤ
samples_in width payload =
    map (sample_in width payload)
    (range_with_len 0 (length payload / bytes_per_sample width))

-- how the device's output with this number is sampled; L24 where there is none
abbrev pub width_on : DeviceParts → ℕ → Width
width_on d output = option_map_or (λ o. o.width) (slice_get d.outputs output) L24

-- what the packet of a claim shows: the payload follows a head of 12 bytes (RFC 3550, section 5.1)
abbrev pub seen_of : DeviceParts → ClaimItem → Seen
seen_of d claim =
    let output = claim_output (length d.outputs) claim.k in
    record {
      claim = claim.k;
      tick = claim_tick d.base (length d.outputs) claim.k;
      output = output;
      samples = samples_in (width_on d output) (drop 12 claim.packet);
    }

-- a packet is silent where all its samples are 0
abbrev pub is_silent : Seen → Bool
is_silent seen = list_all (λ z. unsigned_abs z == 0) seen.samples

-- the greatest of these numbers, and 0 where there is none
abbrev pub greatest : List ℕ → ℕ
greatest [] = 0
greatest (x ∷ xs) = max x (greatest xs)

-- the greatest absolute value of a packet's samples
abbrev pub level_of : Seen → ℕ
level_of seen = greatest (map unsigned_abs seen.samples)
