-- How a stream is sampled.
use Rattle.std.specs.Prelude.{◌≡◌, ℕ, ◌≤◌, ◌⊎◌}
use Rattle.io_caps.specs.declared.limits.TheConstants.{MOST_FRAMES}
use Rattle.io_caps.specs.declared.rate.Width.{Width}
use Rattle.io_caps.specs.declared.rate.Width.TheVariants.{L16, L24}
use Rattle.io_caps.specs.declared.rate.Rate.{Rate}

-- The bytes of one sample: two of L16 (RFC 3551, section 4.5.11), three of L24 (RFC 3190, section
-- 4).
abbrev pub bytes_per_sample : Width → ℕ
bytes_per_sample L16 = 2
bytes_per_sample L24 = 3

-- One of the four rates, with 1 to 240 frames a tick. (This project's own.)
abbrev pub IsRate : Rate → Type 0
IsRate r = ((r.hz ≡ 44100) ⊎ (r.hz ≡ 48000) ⊎ (r.hz ≡ 96000) ⊎ (r.hz ≡ 192000)) × (1 ≤ r.frames)
    × (r.frames ≤ MOST_FRAMES)
