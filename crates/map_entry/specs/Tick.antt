-- Which packet a claim is, and the frames of ticks. With n outputs, claim k is the packet of output
-- k mod n at the tick k div n from the base tick. (This project's own.)
use Rattle.std.specs.Prelude.{ℕ, ◌+◌, ◌*◌, ◌/◌, ◌%◌, ◌^◌}
use Rattle.std.specs.Int.{div_ceil}

-- the tick of a claim
abbrev pub claim_tick : ℕ → ℕ → ℕ → ℕ
claim_tick base outputs claim = base + claim / outputs

-- the output of a claim
abbrev pub claim_output : ℕ → ℕ → ℕ
claim_output outputs claim = claim % outputs

-- the first tick not begun after a number of claims: these, divided by the outputs and rounded up
abbrev pub first_tick : ℕ → ℕ → ℕ → ℕ
first_tick base outputs claims = base + div_ceil claims outputs

-- ---- frames of ticks

-- A frame of a tick as one number, which orders frames: the tick above 16 bits of the frame. The
-- frames of a tick are fewer than 2^16.
abbrev pub frame_key : ℕ → ℕ → ℕ
frame_key tick frame = tick * 2 ^ 16 + frame

-- the tick in which it lies
abbrev pub tick_in : ℕ → ℕ
tick_in key = key / 2 ^ 16

-- and which frame of the tick it is
abbrev pub frame_in : ℕ → ℕ
frame_in key = key % 2 ^ 16

-- the position of a frame of a tick: frames counted from TAI 0, where each tick has the given
-- number of them
abbrev pub position : ℕ → ℕ → ℕ → ℕ
position frames tick frame = tick * frames + frame

-- the frame at a position
abbrev pub position_key : ℕ → ℕ → ℕ
position_key frames at = frame_key (at / frames) (at % frames)
