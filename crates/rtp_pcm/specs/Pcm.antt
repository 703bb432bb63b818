-- PCM samples as the bytes of a payload. A list of bytes is a list of numbers below 256.
use Rattle.std.specs.Prelude.{ℕ, List, ℤ, pos, negsuc, ◌*ℤ◌, ◌≤ℤ◌, ◌<ℤ◌}
use Rattle.std.specs.List.{flat_map}
use Rattle.std.specs.Int.{w64, int_div_euclid}
use Rattle.byteorder.specs.Endian.{big_bytes, big_number, low_bytes, twos_complement}
use Rattle.io_caps.specs.declared.rate.Width.{Width}
use Rattle.io_caps.specs.declared.rate.Width.TheVariants.{L16, L24}

-- A sample inside the device is a signed number of 24 bits. (This project's own.)
abbrev pub IsSample : ℤ → Type 0
IsSample z = (negsuc 8388607 ≤ℤ z) × (z <ℤ pos 8388608)

-- The sample in the bytes of one: two's complement, the most significant byte first (L16: RFC 3551,
-- section 4.5.11; L24: RFC 3190, section 4). A sample of 16 bits is taken times 256. (This
-- project's own.)
abbrev pub sample_of : Width → List ℕ → ℤ
sample_of L16 bytes = twos_complement 2 (big_number 2 bytes) *ℤ pos 256
sample_of L24 bytes = twos_complement 3 (big_number 3 bytes)

-- What is left of a sample in a stream: all of it in L24; in L16 the sample divided by 256, rounded
-- down. (This project's own.)
abbrev pub stream_sample : Width → ℤ → ℤ
stream_sample L16 z = int_div_euclid z (pos 256)
stream_sample L24 z = z

-- The bytes of a sample in a stream: the lowest 16 or 24 bits of its two's complement, the most
-- significant byte first. (RFC 3551, section 4.5.11; RFC 3190, section 4)
abbrev pub bytes_of_sample : Width → ℤ → List ℕ
bytes_of_sample L16 z = big_bytes 2 (low_bytes w64 2 (stream_sample L16 z))
bytes_of_sample L24 z = big_bytes 3 (low_bytes w64 3 (stream_sample L24 z))

-- A sample after it was put into a stream and got again: itself in L24, and in L16 the multiple of
-- 256 that is at or below it.
abbrev pub kept_sample : Width → ℤ → ℤ
kept_sample L16 z = int_div_euclid z (pos 256) *ℤ pos 256
kept_sample L24 z = z

-- The payload of samples, frame by frame and each frame in channel order: their bytes, one after
-- the other. (RFC 3551, sections 4.1, 4.3 and 4.5.11; RFC 3190, section 4)
unfoldable pub payload_of : Width → List ℤ → List ℕ
payload_of width samples = flat_map (bytes_of_sample width) samples
