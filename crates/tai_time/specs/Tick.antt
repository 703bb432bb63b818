-- Ticks, which are packet times of `frames` frames each, and single frames. Tick 0 and frame 0
-- begin at TAI 0. (This project's own; IS-08 counts times in TAI.)
use Rattle.std.specs.Prelude.{ℕ, ◌+◌, ◌*◌}
use Rattle.io_caps.specs.declared.rate.Rate.{Rate}
use Rattle.tai_time.specs.Unit.{unit_start, unit_up, unit_of, IsUnitUp, IsUnitOf}

-- The start of a tick in nanoseconds, rounded down.
abbrev pub tick_start : Rate → ℕ → ℕ
tick_start rate tick = unit_start rate.frames rate.hz tick

-- The least tick whose exact start is at or after a time in nanoseconds.
abbrev pub tick_up : Rate → ℕ → ℕ
tick_up rate nanos = unit_up rate.frames rate.hz nanos

-- The tick in which a time lies: the greatest whose exact start is at or before it.
abbrev pub tick_of : Rate → ℕ → ℕ
tick_of rate nanos = unit_of rate.frames rate.hz nanos

-- The tick is the least that begins at or after a time in nanoseconds.
abbrev pub IsTickUp : Rate → ℕ → ℕ → Type 0
IsTickUp rate nanos tick = IsUnitUp rate.frames rate.hz nanos tick

-- The tick is the greatest that begins at or before a time in nanoseconds.
abbrev pub IsTickOf : Rate → ℕ → ℕ → Type 0
IsTickOf rate nanos tick = IsUnitOf rate.frames rate.hz nanos tick

-- ---- frames, counted from TAI 0

-- The start of a frame in nanoseconds, rounded down.
abbrev pub frame_start : Rate → ℕ → ℕ
frame_start rate frame = unit_start 1 rate.hz frame

-- The least frame whose exact start is at or after a time in nanoseconds.
abbrev pub frame_up : Rate → ℕ → ℕ
frame_up rate nanos = unit_up 1 rate.hz nanos

-- The frame is the least that begins at or after a time in nanoseconds.
abbrev pub IsFrameUp : Rate → ℕ → ℕ → Type 0
IsFrameUp rate nanos frame = IsUnitUp 1 rate.hz nanos frame

-- ---- frames of ticks

-- The start of a frame of a tick in nanoseconds, rounded down.
abbrev pub moment_start : Rate → ℕ → ℕ → ℕ
moment_start rate tick offset = frame_start rate (tick * rate.frames + offset)
