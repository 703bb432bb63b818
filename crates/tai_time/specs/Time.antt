-- TAI times, as numbers and as text. (This project's own; the form `seconds:nanoseconds` is that of
-- IS-04 and IS-08.)
use Rattle.std.specs.Prelude.{◌≡◌, ◌≤◌, ◌<◌, ℕ, ◌+◌, ◌*◌, ◌/◌, ◌%◌, ◌^◌}
use Rattle.std.specs.Prelude.{Bool, ◌==◌, List, ◌∷◌, ◌++◌, Contains, decimal}
use Rattle.std.specs.List.{before_first, after_first}
use Rattle.std.specs.Str.Parse.{IsNumeral, digits_value}

-- Seconds and nanoseconds since TAI 0, which is 1970-01-01 00:00:00 TAI, the epoch of PTP. (IEEE
-- 1588-2008, section 7.2.2)
pub record TaiTime : Type 0 where
  pub secs : ℕ
  pub nanos : ℕ

-- The nanoseconds of a second.
abbrev pub second : ℕ
second = 10 ^ 9

-- Seconds are below this.
abbrev pub secs_limit : ℕ
secs_limit = 2 ^ 40

-- Seconds below 2^40, nanoseconds below 10^9.
abbrev pub IsTai : TaiTime → Type 0
IsTai time = (time.secs < secs_limit) × (time.nanos < second)

-- A time in nanoseconds.
abbrev pub nanos_of : TaiTime → ℕ
nanos_of time = time.secs * second + time.nanos

-- The time of a given number of nanoseconds.
abbrev pub time_of : ℕ → TaiTime
time_of nanos = record { secs = nanos / second; nanos = nanos % second }

-- Times end before this many nanoseconds.
abbrev pub nanos_limit : ℕ
nanos_limit = secs_limit * second

-- ---- as text

-- `:`
abbrev pub colon : ℕ
colon = 58

-- The text that is written: two decimal numbers without leading zeros, and a colon between them.
abbrev pub tai_text : TaiTime → List ℕ
tai_text time = decimal time.secs ++ colon ∷ decimal time.nanos

-- A text of a time: one digit or more, a colon, one digit or more, and each number in its range.
-- There may be leading zeros.
pub record IsTaiText (text : List ℕ) (time : TaiTime) : Type 0 where
  pub before : List ℕ
  pub after : List ℕ
  pub parts : text ≡ before ++ colon ∷ after
  pub before_digits : IsNumeral 10 before
  pub after_digits : IsNumeral 10 after
  pub secs : digits_value 10 before ≡ time.secs
  pub nanos : digits_value 10 after ≡ time.nanos
  pub in_range : IsTai time

-- ---- the faults of a text

-- whether a byte is a colon
abbrev pub is_colon : ℕ → Bool
is_colon b = b == colon

-- what stands before the first colon
abbrev pub secs_part : List ℕ → List ℕ
secs_part text = before_first is_colon text

-- what stands after the first colon
abbrev pub nanos_part : List ℕ → List ℕ
nanos_part text = after_first is_colon text

-- there is a colon
abbrev pub HasColon : List ℕ → Type 0
HasColon text = Contains text colon

-- two parts of one digit or more each
abbrev pub AreDigits : List ℕ → List ℕ → Type 0
AreDigits before after = IsNumeral 10 before × IsNumeral 10 after

-- and the seconds are in their range
abbrev pub HasSecs : List ℕ → List ℕ → Type 0
HasSecs before after = AreDigits before after × (digits_value 10 before < secs_limit)

-- there is no colon
abbrev pub HasNoColon : List ℕ → Type 0
HasNoColon text = HasColon text → ⊥

-- a part is empty or has a byte that is no digit
abbrev pub HasNoDigits : List ℕ → Type 0
HasNoDigits text = HasColon text × (AreDigits (secs_part text) (nanos_part text) → ⊥)

-- both parts are digits, and the seconds are out of their range
abbrev pub IsSecsOver : List ℕ → Type 0
IsSecsOver text =
    HasColon text × AreDigits (secs_part text) (nanos_part text)
    × (secs_limit ≤ digits_value 10 (secs_part text))

-- the seconds are in their range, and the nanoseconds out of theirs
abbrev pub IsNanosOver : List ℕ → Type 0
IsNanosOver text =
    HasColon text × HasSecs (secs_part text) (nanos_part text)
    × (second ≤ digits_value 10 (nanos_part text))
