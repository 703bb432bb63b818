-- The time of a text, as a reading.
use Rattle.std.proofs.Common.{◌≡◌, ℕ, zero, suc, ◌<◌, Bool, true, false, cond, List, [], ◌∷◌}
use Rattle.std.proofs.Common.{length, get_or, nat_lt, Option, Some, None, Result, Ok, Err, refl, ap}
use Rattle.std.proofs.Common.{arith}
use Rattle.std.specs.Prelude.{◌&&◌, ◌||◌}
use Rattle.std.specs.List.{list_all, list_any}
use Rattle.std.specs.Char.{digit_value}
use Rattle.std.specs.Str.Parse.{IsNumeral, AllDigits, digits_value}
use Rattle.std.proofs.lemmas.Bool.{and_parts, eqb-true, ltb-true, lt-ltb}
use Rattle.tai_time.specs.Time.{TaiTime, IsTaiText, HasColon, is_colon, colon, secs_part}
use Rattle.tai_time.specs.Time.{nanos_part, secs_limit, second}
use Rattle.tai_time.proofs.TimeLaws.{IsTaiText-says, says-IsTaiText, same_time}
use Rattle.channel_json.specs.Requests.{are_digits, time_of_parts, time_in}

digits_pass : (text : List ℕ) → AllDigits 10 text
    → list_all (λ b. nat_lt (digit_value b) 10) text ≡ true
digits_pass [] h = refl
digits_pass (b ∷ text) h = rw (lt-ltb (digit_value b) 10 h.0, digits_pass text h.1) refl

digits_from : (text : List ℕ) → list_all (λ b. nat_lt (digit_value b) 10) text ≡ true
    → AllDigits 10 text
digits_from [] h = tt
digits_from (b ∷ text) h =
    let parts = and_parts _ _ h in (ltb-true (digit_value b) 10 parts.0, digits_from text parts.1)

numeral_passes : (text : List ℕ) → IsNumeral 10 text → are_digits text ≡ true
numeral_passes text h = rw (lt-ltb 0 (length text) h.0, digits_pass text h.1) refl

numeral_from : (text : List ℕ) → are_digits text ≡ true → IsNumeral 10 text
numeral_from text h =
    let parts = and_parts _ _ h in (ltb-true 0 (length text) parts.0, digits_from text parts.1)

colon_at : (b : ℕ) (text : List ℕ) (test : Bool) → is_colon b ≡ test
    → (test || list_any is_colon text) ≡ true
    → (list_any is_colon text ≡ true → HasColon text) → HasColon (b ∷ text)
colon_at b text true is h go = (0, omega arith, eqb-true b colon is)
colon_at b text false is h go = let there = go h in (suc there.0, omega (arith, there.1), there.2)

colon_from : (text : List ℕ) → list_any is_colon text ≡ true → HasColon text
colon_from [] h = absurd cc
colon_from (b ∷ text) h = colon_at b text (is_colon b) refl h (colon_from text)

or_true : (test : Bool) → (test || true) ≡ true
or_true true = refl
or_true false = refl

colon_at_place : (text : List ℕ) (k : ℕ) → k < length text → get_or text k colon ≡ colon
    → list_any is_colon text ≡ true
colon_at_place [] k within is = absurd (omega arith)
colon_at_place (b ∷ text) zero within is = rw is refl
colon_at_place (b ∷ text) (suc k) within is =
    rw (colon_at_place text k (omega arith) is) (or_true (is_colon b))

taken : (test : Bool) (text : List ℕ) (time : TaiTime)
    → cond test (time_of_parts (secs_part text) (nanos_part text)) None ≡ Some time
    → (test ≡ true) × (time_of_parts (secs_part text) (nanos_part text) ≡ Some time)
taken true text time h = (refl, h)
taken false text time h = absurd cc

parts_taken : (test : Bool) (one time : TaiTime) → cond test (Some one) None ≡ Some time
    → (test ≡ true) × (one ≡ time)
parts_taken true one time h = (refl, cc)
parts_taken false one time h = absurd cc

-- a text of a time is read as it
pub time_found : (text : List ℕ) (time : TaiTime) → IsTaiText text time → time_in text ≡ Some time
unfolding time_in
time_found text time h =
    let s = IsTaiText-says text time h in
    let secs : nat_lt (digits_value 10 (secs_part text)) secs_limit ≡ true =
    lt-ltb _ _ (omega (arith, s.secs, s.in_range.0)) in
    let nanos : nat_lt (digits_value 10 (nanos_part text)) second ≡ true =
    lt-ltb _ _ (omega (arith, s.nanos, s.in_range.1)) in
    rw (
      colon_at_place text s.there.0 s.there.1 s.there.2,
      numeral_passes _ s.before_digits,
      numeral_passes _ s.after_digits,
      secs,
      nanos,
    )
    (ap Some (same_time _ time s.secs s.nanos))

-- what is read as a time is a text of it
pub time_back : (text : List ℕ) (time : TaiTime) → time_in text ≡ Some time → IsTaiText text time
unfolding time_in
time_back text time h =
    let there = taken (list_any is_colon text) text time h in
    let secs = secs_part text in
    let nanos = nanos_part text in
    let one : TaiTime = record { secs = digits_value 10 secs; nanos = digits_value 10 nanos } in
    let low = nat_lt (digits_value 10 secs) secs_limit in
    let few = nat_lt (digits_value 10 nanos) second in
    let within =
    parts_taken (are_digits secs && (are_digits nanos && (low && few))) one time there.1 in
    let a = and_parts (are_digits secs) (are_digits nanos && (low && few)) within.0 in
    let b = and_parts (are_digits nanos) (low && few) a.1 in
    let c = and_parts low few b.1 in
    says-IsTaiText text time (record {
      there = colon_from text there.0;
      before_digits = numeral_from (secs_part text) a.0;
      after_digits = numeral_from (nanos_part text) b.0;
      secs = ap (λ (t : TaiTime). t.secs) within.1;
      nanos = ap (λ (t : TaiTime). t.nanos) within.1;
      in_range = (
        omega (arith, ltb-true _ _ c.0, ap (λ (t : TaiTime). t.secs) within.1),
        omega (arith, ltb-true _ _ c.1, ap (λ (t : TaiTime). t.nanos) within.1),
      );
    })

missing_at : {E : Type 0} (text : List ℕ) (result : Result TaiTime E) (fault : E)
    (found : Option TaiTime) → result ≡ Err fault
    → ((time : TaiTime) → IsTaiText text time → result ≡ Ok time) → time_in text ≡ found
    → None ≡ found
missing_at text result fault None is only e = refl
missing_at text result fault (Some time) is only e =
    let found = only time (time_back text time e) in absurd cc

-- where a reader fails that reads each text of a time, there is none
pub time_missing : {E : Type 0} (text : List ℕ) (result : Result TaiTime E) (fault : E)
    → result ≡ Err fault
    → ((time : TaiTime) → IsTaiText text time → result ≡ Ok time) → None ≡ time_in text
time_missing text result fault is only = missing_at text result fault (time_in text) is only refl
