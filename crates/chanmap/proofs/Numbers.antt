-- Numbers in words.
use Rattle.std.proofs.Common.{◌≡◌, ℕ, ◌<◌, ◌≤◌, ◌^◌, Bool, true, false, cond, List, [], ◌∷◌, length}
use Rattle.std.proofs.Common.{nat_lt, nat_le, Option, Some, None, Result, Ok, Err, refl, sym, ap}
use Rattle.std.proofs.Common.{◌∙◌, arith}
use Rattle.std.specs.Prelude.{◌&&◌}
use Rattle.std.specs.List.{list_all}
use Rattle.std.specs.Char.{digit_value}
use Rattle.std.specs.Result.{OkIff, result_ok}
use Rattle.std.specs.Str.Parse.{AllDigits, IsNumeral, digits_value}
use Rattle.std.proofs.lemmas.Bool.{and_parts, ltb-true, lt-ltb}
use Rattle.std.proofs.lemmas.Bool.Decides.{nat_tests}
use Rattle.chanmap.specs.Words.{are_digits, number_within}

digits_pass : (text : List ℕ) → AllDigits 10 text
    → list_all (λ b. nat_lt (digit_value b) 10) text ≡ true
digits_pass [] h = refl
digits_pass (b ∷ text) h = rw (lt-ltb (digit_value b) 10 h.0, digits_pass text h.1) refl

digits_from : (text : List ℕ) → list_all (λ b. nat_lt (digit_value b) 10) text ≡ true
    → AllDigits 10 text
digits_from [] h = tt
digits_from (b ∷ text) h =
    let parts = and_parts _ _ h in (ltb-true (digit_value b) 10 parts.0, digits_from text parts.1)

-- digits are what is tested so
numeral_passes : (text : List ℕ) → IsNumeral 10 text → are_digits text ≡ true
numeral_passes text h = rw (lt-ltb 0 (length text) h.0, digits_pass text h.1) refl

numeral_from : (text : List ℕ) → are_digits text ≡ true → IsNumeral 10 text
numeral_from text h =
    let parts = and_parts _ _ h in (ltb-true 0 (length text) parts.0, digits_from text parts.1)

-- ---- the number of digits

taken : (test : Bool) (least most n : ℕ) → test ≡ true → least ≤ n → n ≤ most
    → cond (test && (nat_le least n && nat_le n most)) (Some n) None ≡ Some n
taken test least most n is low high = rw is (grind (arith, nat_tests))

left : (test : Bool) (least most n : ℕ) → (test ≡ true → least ≤ n → n ≤ most → ⊥)
    → cond (test && (nat_le least n && nat_le n most)) (Some n) None ≡ None
left true least most n none = grind (arith, nat_tests, none refl)
left false least most n none = refl

-- digits whose number is in range give it,
pub number_is : (least most n : ℕ) (digits : List ℕ) → IsNumeral 10 digits
    → n ≡ digits_value 10 digits → least ≤ n → n ≤ most → number_within least most digits ≡ Some n
number_is least most n digits numeral is low high =
    taken (are_digits digits) least most (digits_value 10 digits) (numeral_passes digits numeral)
    (omega (arith, is, low)) (omega (arith, is, high))
    ∙ ap Some (sym is)

-- and other texts give none
pub number_none : (least most : ℕ) (digits : List ℕ)
    → (IsNumeral 10 digits → least ≤ digits_value 10 digits → digits_value 10 digits ≤ most → ⊥)
    → number_within least most digits ≡ None
number_none least most digits none =
    left (are_digits digits) least most (digits_value 10 digits)
    (λ is low high. none (numeral_from digits is) low high)

-- ---- what was read as a number

pub parsed_some : {E : Type 0} (r : Result ℕ E) (n : ℕ) (P : Type 0) (v : ℕ) → OkIff r P v
    → result_ok r ≡ Some n → P × (n ≡ v)
parsed_some (Ok x) n P v h e = let same : x ≡ n = cc in (h.0, sym same ∙ h.1)
parsed_some (Err x) n P v h e = absurd (cc)

pub parsed_none : {E : Type 0} (r : Result ℕ E) (P : Type 0) (v : ℕ) → OkIff r P v
    → result_ok r ≡ None → ¬ P
parsed_none (Ok x) P v h e = absurd (cc)
parsed_none (Err x) P v h e = h
