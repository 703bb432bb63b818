-- Ticks of a device stay far below what 64 bits hold.
use Rattle.std.proofs.Common.{◌≡◌, ℕ, ◌+◌, ◌*◌, ◌^◌, ◌<◌, ◌≤◌, arith}
use Rattle.std.specs.Prelude.{◌⊎◌}
use Rattle.std.proofs.Math.Nat.{div-le_self, mul-le-mul_left}
use Rattle.io_caps.specs.declared.device.DeviceParts.{DeviceParts}
use Rattle.io_caps.specs.declared.limits.TheConstants.{SECONDS_OF_TIME, TICKS_PAST_BASE}
use Rattle.io_caps.specs.Device.{IsDevice}
use Rattle.map_entry.specs.declared.claims.TheConstants.{CLAIMS_LIMIT}
use Rattle.map_entry.specs.Tick.{claim_tick, first_tick}
use Rattle.claim_rule.specs.declared.words.TheConstants.{TICKS_LIMIT}

hz_few : (hz : ℕ) → (hz ≡ 44100) ⊎ (hz ≡ 48000) ⊎ (hz ≡ 96000) ⊎ (hz ≡ 192000)
    → hz * SECONDS_OF_TIME + CLAIMS_LIMIT ≤ TICKS_LIMIT
hz_few hz rate = grind arith

more_frames : (a frames : ℕ) → 1 ≤ frames → a ≤ a * frames
more_frames a frames some = let m : a * 1 ≤ a * frames = mul-le-mul_left a some in omega arith

-- the first tick, with as many ticks after it as there are claims
pub base_few : (d : DeviceParts) → IsDevice d → d.base + CLAIMS_LIMIT < TICKS_LIMIT
base_few d device =
    let b = device.bounds in let hz = hz_few d.rate.hz b.rate.0 in
    let m = more_frames (d.base + TICKS_PAST_BASE) d.rate.frames b.rate.1 in
    let below = b.base in omega arith

pub claim_tick-few : (d : DeviceParts) (n claim : ℕ) → IsDevice d → claim < CLAIMS_LIMIT
    → claim_tick d.base n claim < 2 ^ 64
claim_tick-few d n claim device few = let b = base_few d device in let q = div-le_self claim n in
    omega arith

pub first_tick-few : (d : DeviceParts) (n claims : ℕ) → IsDevice d → claims < CLAIMS_LIMIT
    → first_tick d.base n claims < 2 ^ 64
first_tick-few d n claims device few = let b = base_few d device in let q = div-le_self claims n in
    omega arith

-- words can spell the first tick not begun
pub begin_few : (d : DeviceParts) (n claims : ℕ) → IsDevice d → claims < CLAIMS_LIMIT
    → first_tick d.base n claims < TICKS_LIMIT
begin_few d n claims device few = let b = base_few d device in let q = div-le_self claims n in
    omega arith
