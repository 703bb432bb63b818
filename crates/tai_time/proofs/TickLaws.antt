-- Ticks, frames and times agree.
use Rattle.std.proofs.Common.{◌≡◌, ◌≤◌, ℕ, ◌+◌, ◌*◌, ◌/◌, ◌^◌, sym, ap, ◌∙◌, arith}
use Rattle.std.proofs.Math.Nat.{mul_assoc}
use Rattle.io_caps.specs.declared.rate.Rate.{Rate}
use Rattle.io_caps.specs.Rate.{IsRate}
use Rattle.tai_time.proofs.UnitLaws.{unit_up-least, unit_up-only, unit_up-start, unit_up-rises, unit_of-greatest, unit_of-only, unit_of-rises}
use Rattle.tai_time.specs.Tick.{tick_start, tick_up, tick_of, IsTickUp, IsTickOf}
use Rattle.tai_time.specs.Tick.{frame_start, frame_up, IsFrameUp, moment_start}

-- A second has no more frames than nanoseconds, so a frame is no shorter than a nanosecond.
hz-bounds : (rate : Rate) → IsRate rate → (1 ≤ rate.hz) × (rate.hz ≤ 192000)
hz-bounds rate h = (grind arith, grind arith)

pub tick_up-least : (rate : Rate) (nanos : ℕ) → IsRate rate → IsTickUp rate nanos (tick_up rate nanos)
tick_up-least rate nanos h = unit_up-least rate.frames rate.hz nanos h.1

pub tick_up-only : (rate : Rate) (nanos tick : ℕ) → IsRate rate → IsTickUp rate nanos tick → tick ≡ tick_up rate nanos
tick_up-only rate nanos tick h is = unit_up-only rate.frames rate.hz nanos tick h.1 is

pub tick_of-greatest : (rate : Rate) (nanos : ℕ) → IsRate rate → IsTickOf rate nanos (tick_of rate nanos)
tick_of-greatest rate nanos h = unit_of-greatest rate.frames rate.hz nanos h.1

pub tick_of-only : (rate : Rate) (nanos tick : ℕ) → IsRate rate → IsTickOf rate nanos tick → tick ≡ tick_of rate nanos
tick_of-only rate nanos tick h is = unit_of-only rate.frames rate.hz nanos tick h.1 is

-- The least tick from the start of a tick on is the tick itself.
pub tick_up-start : (rate : Rate) (tick : ℕ) → IsRate rate → tick_up rate (tick_start rate tick) ≡ tick
tick_up-start rate tick h =
    let hz = hz-bounds rate h in
    unit_up-start rate.frames rate.hz tick h.1 hz.0 (omega (arith, hz, h.1))

-- A later time has no earlier tick.
pub tick_up-rises : (rate : Rate) (x y : ℕ) → IsRate rate → x ≤ y → tick_up rate x ≤ tick_up rate y
tick_up-rises rate x y h le = unit_up-rises rate.frames rate.hz x y h.1 le

pub tick_of-rises : (rate : Rate) (x y : ℕ) → IsRate rate → x ≤ y → tick_of rate x ≤ tick_of rate y
tick_of-rises rate x y h le = unit_of-rises rate.frames rate.hz x y h.1 le

-- ---- frames

pub frame_up-least : (rate : Rate) (nanos : ℕ) → IsFrameUp rate nanos (frame_up rate nanos)
frame_up-least rate nanos = unit_up-least 1 rate.hz nanos (omega arith)

-- The least frame from the start of a frame on is the frame itself.
pub frame_up-start : (rate : Rate) (frame : ℕ) → IsRate rate → frame_up rate (frame_start rate frame) ≡ frame
frame_up-start rate frame h =
    let hz = hz-bounds rate h in
    unit_up-start 1 rate.hz frame (omega arith) hz.0 (omega (arith, hz))

-- A tick begins with its first frame.
pub tick_start-frame : (rate : Rate) (tick : ℕ) → tick_start rate tick ≡ frame_start rate (tick * rate.frames)
tick_start-frame rate tick = ap (λ (n : ℕ). n / rate.hz) (sym (mul_assoc tick rate.frames (10 ^ 9)))

-- The first frame of a tick begins with it.
pub moment_start-begin : (rate : Rate) (tick offset : ℕ) → offset ≡ 0
    → moment_start rate tick offset ≡ tick_start rate tick
moment_start-begin rate tick offset e =
    let first : tick * rate.frames + offset ≡ tick * rate.frames = omega (arith, e) in
    ap (frame_start rate) first ∙ sym (tick_start-frame rate tick)
