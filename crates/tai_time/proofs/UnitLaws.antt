-- The units of a time, by their inequalities.
use Rattle.std.proofs.Common.{◌≡◌, ◌<◌, ◌≤◌, ℕ, ◌+◌, ◌*◌, ◌/◌, ◌%◌, ◌^◌, arith, inl, inr}
use Rattle.std.proofs.Math.Nat.{mul-le-mul_right, div-mul-le_self, div-add-mod', mod-lt}
use Rattle.std.proofs.lemmas.Bool.{cases_lt}
use Rattle.std.proofs.lemmas.Nat.{le-div}
use Rattle.std.proofs.lemmas.Grind.{div_ceil_times}
use Rattle.list_laws.proofs.Parts.{part_most, part_within}
use Rattle.tai_time.specs.Unit.{unit_start, unit_up, unit_of, IsUnitUp, IsUnitOf}

-- the least multiple that is not below a number
least : (a d u v : ℕ) → u * d < a + d → a ≤ v * d → u ≤ v
least a d u v close from = part_most u v d (omega (arith, close, from))

pub unit_up-least : (frames hz x : ℕ) → 0 < frames → IsUnitUp frames hz x (unit_up frames hz x)
unit_up-least frames hz x h =
    let bounds = div_ceil_times (x * hz) (frames * 10 ^ 9) (omega arith) in
    (bounds.0, λ v from. least (x * hz) (frames * 10 ^ 9) (unit_up frames hz x) v bounds.1 from)

-- Any unit that begins at or after a time, and no unit before it does, is that one.
pub unit_up-only : (frames hz x u : ℕ) → 0 < frames → IsUnitUp frames hz x u → u ≡ unit_up frames hz x
unit_up-only frames hz x u h is =
    let it = unit_up-least frames hz x h in
    omega (arith, is.1 (unit_up frames hz x) it.0, it.1 u is.0)

pub unit_of-greatest : (frames hz x : ℕ) → 0 < frames → IsUnitOf frames hz x (unit_of frames hz x)
unit_of-greatest frames hz x h =
    (div-mul-le_self (x * hz) (frames * 10 ^ 9), λ v by. le-div v (x * hz) (frames * 10 ^ 9) (omega arith) by)

pub unit_of-only : (frames hz x u : ℕ) → 0 < frames → IsUnitOf frames hz x u → u ≡ unit_of frames hz x
unit_of-only frames hz x u h is =
    let it = unit_of-greatest frames hz x h in
    omega (arith, is.1 (unit_of frames hz x) it.0, it.1 u is.0)

-- The least unit from its own start on is the unit itself, where a unit is no shorter than a
-- nanosecond.
pub unit_up-start : (frames hz u : ℕ) → 0 < frames → 0 < hz → hz ≤ frames * 10 ^ 9 → unit_up frames hz (unit_start frames hz u) ≡ u
unit_up-start frames hz u some_frames some_hz long =
    let exact : ℕ = u * (frames * 10 ^ 9) in
    let split : exact / hz * hz + exact % hz ≡ exact = div-add-mod' exact hz in
    let rest : exact % hz < hz = mod-lt exact some_hz in
    let it = unit_up-least frames hz (unit_start frames hz u) some_frames in
    let at_most : unit_up frames hz (unit_start frames hz u) ≤ u = it.1 u (omega (arith, split)) in
    let at_least : u ≤ unit_up frames hz (unit_start frames hz u) =
    elim (cases_lt (unit_up frames hz (unit_start frames hz u)) u) [
      | inl lt ↦ absurd (omega (arith, part_within u (unit_up frames hz (unit_start frames hz u)) (frames * 10 ^ 9) lt, split, rest, it.0, long))
      | inr le ↦ le
    ] in
    omega (arith, at_most, at_least)

-- A later time has no earlier unit.
pub unit_up-rises : (frames hz x y : ℕ) → 0 < frames → x ≤ y → unit_up frames hz x ≤ unit_up frames hz y
unit_up-rises frames hz x y h le =
    let from : x * hz ≤ y * hz = mul-le-mul_right hz le in
    (unit_up-least frames hz x h).1 (unit_up frames hz y) (omega (arith, from, (unit_up-least frames hz y h).0))

pub unit_of-rises : (frames hz x y : ℕ) → 0 < frames → x ≤ y → unit_of frames hz x ≤ unit_of frames hz y
unit_of-rises frames hz x y h le =
    let from : x * hz ≤ y * hz = mul-le-mul_right hz le in
    (unit_of-greatest frames hz y h).1 (unit_of frames hz x) (omega (arith, from, (unit_of-greatest frames hz x h).0))
