-- Units of a number of frames each, as ticks and single frames: where one begins, and which one a
-- time belongs to. Unit u begins u * frames / hz seconds after TAI 0. (This project's own.)
use Rattle.std.specs.Prelude.{◌≤◌, ℕ, ◌*◌, ◌/◌, ◌^◌}
use Rattle.std.specs.Int.{div_ceil}

-- A unit begins at or after a time of x nanoseconds.
abbrev pub BeginsFrom : ℕ → ℕ → ℕ → ℕ → Type 0
BeginsFrom frames hz x u = x * hz ≤ u * (frames * 10 ^ 9)

-- A unit begins at or before a time of x nanoseconds.
abbrev pub BeginsBy : ℕ → ℕ → ℕ → ℕ → Type 0
BeginsBy frames hz x u = u * (frames * 10 ^ 9) ≤ x * hz

-- The start of a unit, rounded down to a nanosecond.
abbrev pub unit_start : ℕ → ℕ → ℕ → ℕ
unit_start frames hz u = u * (frames * 10 ^ 9) / hz

-- The least unit that begins at or after a time.
abbrev pub unit_up : ℕ → ℕ → ℕ → ℕ
unit_up frames hz x = div_ceil (x * hz) (frames * 10 ^ 9)

-- The greatest unit that begins at or before a time: the one in which the time lies.
abbrev pub unit_of : ℕ → ℕ → ℕ → ℕ
unit_of frames hz x = x * hz / (frames * 10 ^ 9)

-- The unit is the least that begins at or after a time.
abbrev pub IsUnitUp : ℕ → ℕ → ℕ → ℕ → Type 0
IsUnitUp frames hz x u = BeginsFrom frames hz x u × ((v : ℕ) → BeginsFrom frames hz x v → u ≤ v)

-- The unit is the greatest that begins at or before a time.
abbrev pub IsUnitOf : ℕ → ℕ → ℕ → ℕ → Type 0
IsUnitOf frames hz x u = BeginsBy frames hz x u × ((v : ℕ) → BeginsBy frames hz x v → v ≤ u)
