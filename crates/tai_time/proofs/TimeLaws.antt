-- What is written is the text of the time, and a text has one time.
use Rattle.std.proofs.Common.{◌≡◌, ◌<◌, ℕ, ◌+◌, ◌/◌, ◌%◌, ◌^◌, true, false, cond, List, [], ◌∷◌}
use Rattle.std.proofs.Common.{◌++◌, length, get_or, take, drop, Some, None, refl, sym, ap, subst, ◌∙◌, arith, inl, inr, ltb}
use Rattle.std.specs.Prelude.{decimal}
use Rattle.std.specs.Char.{digit_value}
use Rattle.std.specs.Int.{IsInRange}
use Rattle.std.specs.List.{position, position_or_len}
use Rattle.std.specs.Str.Parse.{IsNumeral, AllDigits, digits_value}
use Rattle.std.proofs.lemmas.Bool.{eqb-true, cases_lt, lt-ltb}
use Rattle.std.proofs.lemmas.Fmt.{decimal_is_IsNumeral}
use Rattle.std.proofs.lemmas.List.{take_at, drop_at, drop-drop, get_or_at, length-append}
use Rattle.std.proofs.lemmas.List.Sums.{split_at_first, fails_before_first, passes_at_first, position_or_len_is}
use Rattle.std.proofs.lemmas.List.Quantifiers.{position-Some}
use Rattle.std.proofs.lemmas.Str.Parse.{digit_from_value}
use Rattle.tai_time.specs.Time.{TaiTime, IsTai, IsTaiText, HasColon, secs_part, nanos_part, nanos_of, time_of, tai_text, colon, is_colon}

-- The time of a number of nanoseconds has that many.
pub nanos_of-time_of : (nanos : ℕ) → nanos_of (time_of nanos) ≡ nanos
nanos_of-time_of nanos = omega arith

-- A time is that of its nanoseconds.
pub time_of-nanos_of : (time : TaiTime) → IsTai time → time_of (nanos_of time) ≡ time
time_of-nanos_of time h =
    let secs : nanos_of time / 10 ^ 9 ≡ time.secs = omega (arith, h.1) in
    let nanos : nanos_of time % 10 ^ 9 ≡ time.nanos = omega (arith, h.1) in
    rw (secs, nanos) refl

-- the time of these seconds and nanoseconds
abbrev time_from : ℕ → ℕ → TaiTime
time_from secs nanos = record { secs = secs; nanos = nanos }

pub same_time : (one other : TaiTime) → one.secs ≡ other.secs → one.nanos ≡ other.nanos → one ≡ other
same_time one other secs nanos = ap (λ (n : ℕ). time_from n one.nanos) secs ∙ ap (time_from other.secs) nanos

-- What is written is a text of the time.
pub tai_text-IsTaiText : (time : TaiTime) → IsTai time → IsTaiText (tai_text time) time
tai_text-IsTaiText time h =
    let secs = decimal_is_IsNumeral time.secs (omega (arith, h.0)) in
    let nanos = decimal_is_IsNumeral time.nanos (omega (arith, h.1)) in
    record {
      before = decimal time.secs;
      after = decimal time.nanos;
      parts = refl;
      before_digits = secs.0;
      after_digits = nanos.0;
      secs = secs.1;
      nanos = nanos.1;
      in_range = h;
    }

not_colon : (b : ℕ) → digit_value b < 10 → is_colon b ≡ false
not_colon b h = let r : IsInRange 48 57 b = digit_from_value b h in grind (arith, r)

-- The colon after digits is the first.
colon_after_digits : (before after : List ℕ) → AllDigits 10 before → position_or_len is_colon (before ++ colon ∷ after) ≡ length before
colon_after_digits [] after h = refl
colon_after_digits (b ∷ before) after h =
    let rest = colon_after_digits before after h.1 in
    rw (not_colon b h.0, rest) (omega arith)

-- The parts of a text of a time.
pub record IsCut (text : List ℕ) (before after : List ℕ) : Type 0 where
  pub there : HasColon text
  pub first : secs_part text ≡ before
  pub second_part : nanos_part text ≡ after

pub IsCut-digits : (before after : List ℕ) → AllDigits 10 before → IsCut (before ++ colon ∷ after) before after
IsCut-digits before after digits =
    let place = colon_after_digits before after digits in
    record {
      there = (length before, omega (arith, length-append before (colon ∷ after)), get_or_at before colon after colon (length before) refl);
      first = ap (λ (n : ℕ). take n (before ++ colon ∷ after)) place ∙ take_at before (colon ∷ after) (length before) refl;
      second_part =
          ap (λ (n : ℕ). drop (n + 1) (before ++ colon ∷ after)) place ∙ sym (drop-drop 1 (length before) (before ++ colon ∷ after))
          ∙ ap (drop 1) (drop_at before (colon ∷ after) (length before) refl);
    }

-- The first colon stands between the parts.
colon_within : (text : List ℕ) → HasColon text → position_or_len is_colon text < length text
colon_within text h = elim (cases_lt h.0 (position_or_len is_colon text)) [
  | inl lt ↦
      let none : is_colon (get_or text h.0 colon) ≡ false = fails_before_first is_colon text h.0 colon lt in
      let some : is_colon (get_or text h.0 colon) ≡ true = ap is_colon h.2 in
      absurd cc
  | inr le ↦ omega (arith, le, h.1)
]

pub colon_between : (text : List ℕ) → HasColon text → text ≡ secs_part text ++ colon ∷ nanos_part text
colon_between text h =
    let within = colon_within text h in
    let is : is_colon (get_or text (position_or_len is_colon text) 0) ≡ true = passes_at_first is_colon text 0 within in
    split_at_first is_colon text 0 within ∙ ap (λ (b : ℕ). secs_part text ++ b ∷ nanos_part text) (eqb-true _ _ is)

-- Where the first colon was found.
pub colon_found : (text : List ℕ) (at : ℕ) → position is_colon text ≡ Some at → HasColon text × (at ≡ position_or_len is_colon text)
    × (at < length text)
colon_found text at e =
    let found = position-Some is_colon text at colon e in
    ((at, found.0, eqb-true _ _ found.1), sym (position_or_len_is is_colon text at colon (omega (arith, found.0)) found.2 (λ lt. found.1)), found.0)

pub colon_missing : (text : List ℕ) → position is_colon text ≡ None → HasColon text → ⊥
colon_missing text e h =
    let test : ltb (position_or_len is_colon text) (length text) ≡ true = lt-ltb _ _ (colon_within text h) in
    let none : cond (ltb (position_or_len is_colon text) (length text)) (Some (position_or_len is_colon text)) None ≡ None = e in
    let some : Some (position_or_len is_colon text) ≡ None = rw test at none in
    absurd cc

-- What a text of a time says of its parts.
pub record Says (text : List ℕ) (time : TaiTime) : Type 0 where
  pub there : HasColon text
  pub before_digits : IsNumeral 10 (secs_part text)
  pub after_digits : IsNumeral 10 (nanos_part text)
  pub secs : digits_value 10 (secs_part text) ≡ time.secs
  pub nanos : digits_value 10 (nanos_part text) ≡ time.nanos
  pub in_range : IsTai time

pub IsTaiText-says : (text : List ℕ) (time : TaiTime) → IsTaiText text time → Says text time
IsTaiText-says text time t =
    let cut : IsCut text t.before t.after = subst (λ (x : List ℕ). IsCut x t.before t.after) (sym t.parts)
    (IsCut-digits t.before t.after t.before_digits.1) in
    record {
      there = cut.there;
      before_digits = subst (IsNumeral 10) (sym cut.first) t.before_digits;
      after_digits = subst (IsNumeral 10) (sym cut.second_part) t.after_digits;
      secs = ap (digits_value 10) cut.first ∙ t.secs;
      nanos = ap (digits_value 10) cut.second_part ∙ t.nanos;
      in_range = t.in_range;
    }

pub says-IsTaiText : (text : List ℕ) (time : TaiTime) → Says text time → IsTaiText text time
says-IsTaiText text time s = record {
  before = secs_part text;
  after = nanos_part text;
  parts = colon_between text s.there;
  before_digits = s.before_digits;
  after_digits = s.after_digits;
  secs = s.secs;
  nanos = s.nanos;
  in_range = s.in_range;
}

-- A text has one time.
pub one_time : (text : List ℕ) (one other : TaiTime) → IsTaiText text one → IsTaiText text other → one ≡ other
one_time text one other a b =
    let s = IsTaiText-says text one a in
    let t = IsTaiText-says text other b in
    let secs : one.secs ≡ other.secs = sym s.secs ∙ t.secs in
    let nanos : one.nanos ≡ other.nanos = sym s.nanos ∙ t.nanos in
    same_time one other secs nanos
