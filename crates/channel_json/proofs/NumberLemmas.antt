-- Numbers in texts: decimal texts without leading zeros.
use Rattle.std.proofs.Common.{◌≡◌, ℕ, ◌<◌, ◌≤◌, ◌^◌, List, [], ◌∷◌, Bool, true, false, cond, Some}
use Rattle.std.proofs.Common.{None, Result, Ok, Err, decimal, refl, sym, ap, ◌∙◌, subst, arith}
use Rattle.std.proofs.Common.{◌==◌, drop}
use Rattle.std.specs.Result.{OkIff, result_ok}
use Rattle.std.specs.Str.Parse.{IsNumeral, digits_value, without_leading_plus}
use Rattle.std.specs.Char.{digit_value}
use Rattle.std.proofs.lemmas.Bool.Decides.{nat_tests}
use Rattle.std.proofs.lemmas.Fmt.{decimal_is_IsNumeral}
use Rattle.std.proofs.lemmas.Slice.Eq.{bytes_eq-Decides}
use Rattle.channel_json.specs.Fields.{at_most}
use Rattle.channel_json.specs.Requests.{number_in}

pub parsed_some : {E : Type 0} (r : Result ℕ E) (n : ℕ) (P : Type 0) (v : ℕ) → OkIff r P v
    → result_ok r ≡ Some n → P × (n ≡ v)
parsed_some (Ok x) n P v h e = let same : x ≡ n = cc in (h.0, sym same ∙ h.1)
parsed_some (Err x) n P v h e = absurd (cc)

pub parsed_none : {E : Type 0} (r : Result ℕ E) (P : Type 0) (v : ℕ) → OkIff r P v
    → result_ok r ≡ None → ¬ P
parsed_none (Ok x) P v h e = absurd (cc)
parsed_none (Err x) P v h e = h

plus_at : (d : ℕ) (ds : List ℕ) (b : Bool) → (d == 43) ≡ b → digit_value d < 10
    → drop (cond b 1 0) (d ∷ ds) ≡ d ∷ ds
plus_at d ds true is h = let same : d ≡ 43 = grind (arith, nat_tests) in let bad : 36 < 10 =
    subst (λ (x : ℕ). digit_value x < 10) same h in absurd (omega arith)
plus_at d ds false is h = refl

plus_stays : (ds : List ℕ) → IsNumeral 10 ds → without_leading_plus ds ≡ ds
plus_stays [] h = absurd (omega arith)
plus_stays (d ∷ ds) h = plus_at d ds (d == 43) refl h.1.0

-- what a decimal text reads as
pub numeral : (key : List ℕ) (n : ℕ) → n < 2 ^ 64 → key ≡ decimal n
    → IsNumeral 10 (without_leading_plus key)
    × (digits_value 10 (without_leading_plus key) ≡ n)
numeral key n lt e =
    let own = decimal_is_IsNumeral n lt in
    rw (e, plus_stays (decimal n) own.0) own

same : (key : List ℕ) (n : ℕ) → n < 2 ^ 64 → key ≡ decimal n → digits_value 10 key ≡ n
same key n lt e = ap (digits_value 10) e ∙ (decimal_is_IsNumeral n lt).1

tested : (b : Bool) (most n m : ℕ) → b ≡ true → n ≡ m → m ≤ most
    → cond b (at_most most n) None ≡ Some m
tested b most n m is e le = rw (is, e) (grind (arith, nat_tests))

-- a decimal text is its number
pub read_back : (most : ℕ) (key : List ℕ) (n : ℕ) → n < 2 ^ 64 → n ≤ most → key ≡ decimal n
    → number_in most key ≡ Some n
read_back most key n lt le e =
    let value = same key n lt e in
    tested _ most _ n ((bytes_eq-Decides key (decimal (digits_value 10 key))).1
    (e ∙ ap decimal (sym value))) value le

untested : (b : Bool) (most n : ℕ) → (b ≡ true → n ≤ most → ⊥) → cond b (at_most most n) None ≡ None
untested true most n none = grind (arith, nat_tests, none refl)
untested false most n none = refl

-- another text is no number
pub not_read : (most : ℕ) (key : List ℕ) → ((n : ℕ) → n ≤ most → key ≡ decimal n → ⊥)
    → number_in most key ≡ None
not_read most key none =
    untested _ most _ (λ is le. none (digits_value 10 key) le
    ((bytes_eq-Decides key (decimal (digits_value 10 key))).0 is))
