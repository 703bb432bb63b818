-- From what a call answered to what its caller promises.
use Rattle.std.proofs.Common.{◌≡◌, ◌<◌, ◌^◌, ℕ, List, Option, Some, None, Result, Ok, Err, IfOk, IfSome, IsOk, refl, sym, ap, subst, ◌∙◌}
use Rattle.std.specs.Str.Parse.{digits_value}
use Rattle.io_caps.specs.declared.rate.Rate.{Rate}
use Rattle.io_caps.specs.Rate.{IsRate}
use Rattle.tai_time.specs.Time.{TaiTime, IsTai, IsTaiText, nanos_of, time_of, HasColon, HasSecs, secs_part, nanos_part}
use Rattle.tai_time.proofs.TimeLaws.{IsTaiText-says, says-IsTaiText, same_time, nanos_of-time_of}
use Rattle.tai_time.specs.Tick.{tick_start, tick_up, tick_of, IsTickUp, IsTickOf}
use Rattle.tai_time.specs.Tick.{frame_start, frame_up, IsFrameUp}
use Rattle.tai_time.proofs.TickLaws.{tick_up-least, tick_of-greatest, tick_up-start}
use Rattle.tai_time.proofs.TickLaws.{frame_up-least, frame_up-start}

pub least_at : (rate : Rate) (nanos tick : ℕ) → IsRate rate → tick ≡ tick_up rate nanos → IsTickUp rate nanos tick
least_at rate nanos tick h e = subst (IsTickUp rate nanos) (sym e) (tick_up-least rate nanos h)

pub greatest_at : (rate : Rate) (nanos tick : ℕ) → IsRate rate → tick ≡ tick_of rate nanos → IsTickOf rate nanos tick
greatest_at rate nanos tick h e = subst (IsTickOf rate nanos) (sym e) (tick_of-greatest rate nanos h)

pub again_at : (rate : Rate) (tick : ℕ) (r : Option TaiTime) → IsRate rate → IfSome r (λ time. (time ≡ time_of (tick_start rate tick)) × IsTai time)
    → IfSome r (λ time. tick_up rate (nanos_of time) ≡ tick)
again_at rate tick None h e = tt
again_at rate tick (Some time) h e =
    ap (λ (t : TaiTime). tick_up rate (nanos_of t)) e.0 ∙ ap (tick_up rate) (nanos_of-time_of (tick_start rate tick)) ∙ tick_up-start rate tick h

pub least_frame_at : (rate : Rate) (nanos frame : ℕ) → IsRate rate → frame ≡ frame_up rate nanos → IsFrameUp rate nanos frame
least_frame_at rate nanos frame h e = subst (IsFrameUp rate nanos) (sym e) (frame_up-least rate nanos)

pub frame_again_at : (rate : Rate) (frame : ℕ) (r : Option TaiTime) → IsRate rate
    → IfSome r (λ time. (time ≡ time_of (frame_start rate frame)) × IsTai time) → IfSome r (λ time. frame_up rate (nanos_of time) ≡ frame)
frame_again_at rate frame None h e = tt
frame_again_at rate frame (Some time) h e =
    ap (λ (t : TaiTime). frame_up rate (nanos_of t)) e.0 ∙ ap (frame_up rate) (nanos_of-time_of (frame_start rate frame)) ∙ frame_up-start rate frame h

-- what the parts of a text say
pub found_at : {E : Type 0} (text : List ℕ) (r : Result TaiTime E) → HasColon text
    → (IsOk r → HasSecs (secs_part text) (nanos_part text) × (digits_value 10 (nanos_part text) < 10 ^ 9))
    → IfOk r (λ time. (time.secs ≡ digits_value 10 (secs_part text)) × (time.nanos ≡ digits_value 10 (nanos_part text)))
    → IfOk r (λ time. IsTaiText text time)
found_at text (Err e) there ok parts = tt
found_at text (Ok time) there ok parts =
    let all = ok refl in
    let digits = all.0.0 in
    says-IsTaiText text time (record {
      there = there;
      before_digits = digits.0;
      after_digits = digits.1;
      secs = sym parts.0;
      nanos = sym parts.1;
      in_range = (subst (λ (n : ℕ). n < 2 ^ 40) (sym parts.0) all.0.1, subst (λ (n : ℕ). n < 10 ^ 9) (sym parts.1) all.1);
    })

-- a time that was read
abbrev as_ok : {E : Type 0} → TaiTime → Result TaiTime E
as_ok time = Ok time

pub only_at : {E : Type 0} (text : List ℕ) (r : Result TaiTime E) (time : TaiTime)
    → (HasSecs (secs_part text) (nanos_part text) × (digits_value 10 (nanos_part text) < 10 ^ 9) → IsOk r)
    → IfOk r (λ time. (time.secs ≡ digits_value 10 (secs_part text)) × (time.nanos ≡ digits_value 10 (nanos_part text)))
    → IsTaiText text time → r ≡ Ok time
only_at text (Err e) time ok parts is =
    let s = IsTaiText-says text time is in
    let fine = ok (
      ((s.before_digits, s.after_digits), subst (λ (n : ℕ). n < 2 ^ 40) (sym s.secs) s.in_range.0),
      subst (λ (n : ℕ). n < 10 ^ 9) (sym s.nanos) s.in_range.1,
    ) in
    absurd cc
only_at {E} text (Ok got) time ok parts is =
    let s = IsTaiText-says text time is in
    ap (λ (t : TaiTime). as_ok {E = E} t) (same_time got time (parts.0 ∙ s.secs) (parts.1 ∙ s.nanos))
