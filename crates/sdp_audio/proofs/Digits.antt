-- The number of digits that is cut off on the way.
use Rattle.std.proofs.Common.{◌≡◌, ℕ, ◌+◌, ◌-◌, ◌*◌, ◌<◌, ◌≤◌, ◌⊎◌, inl, inr, min, true, List, [], ◌∷◌, length, get_or, drop}
use Rattle.std.proofs.Common.{ap, ◌∙◌, arith}
use Rattle.std.proofs.lemmas.Bool.{and_parts, cases_lt}
use Rattle.std.proofs.lemmas.Grind.{common_steps}
use Rattle.std.proofs.lemmas.List.{drop_more}
use Rattle.std.proofs.lemmas.Str.{digit_value_digit}
use Rattle.std.specs.Char.{digit_value, is_ascii_digit}
use Rattle.std.specs.Int.{IsInRange}
use Rattle.std.specs.List.{list_all}
use Rattle.std.specs.Str.Parse.{digits_value, digits_value_after}

-- more digits make no smaller number
value_grows : (ds : List ℕ) (n : ℕ) → n ≤ digits_value_after 10 n ds
value_grows [] n = omega arith
value_grows (d ∷ ds) n = omega (arith, value_grows ds (n * 10 + digit_value d))

cut_off_by : (most x : ℕ) (ds : List ℕ) → x < most ⊎ most ≤ x
    → min (digits_value_after 10 (min x most) ds) most ≡ min (digits_value_after 10 x ds) most
cut_off_by most x ds (inl small) = ap (λ (n : ℕ). min (digits_value_after 10 n ds) most) (omega (arith, small))
cut_off_by most x ds (inr large) =
    let cut : min x most ≡ most = omega (arith, large) in
    let low : most ≤ digits_value_after 10 (min x most) ds = rw cut (value_grows ds most) in
    omega (arith, low, value_grows ds x, large)

-- a number that is cut off on the way is cut off in the end
cut_off : (most x : ℕ) (ds : List ℕ) → min (digits_value_after 10 (min x most) ds) most ≡ min (digits_value_after 10 x ds) most
cut_off most x ds = cut_off_by most x ds (cases_lt x most)

digit_range : (b : ℕ) → is_ascii_digit b ≡ true → IsInRange 48 57 b
digit_range b h = (grind (arith, common_steps), grind (arith, common_steps))

-- one digit more
pub digit_more : (most number : ℕ) (digits : List ℕ) (at next : ℕ) → at < length digits → list_all is_ascii_digit (drop at digits) ≡ true
    → next ≡ min (number * 10 + (get_or digits at 0 - 48)) most
    → min (digits_value_after 10 number (drop at digits)) most ≡ min (digits_value 10 digits) most
    → (min (digits_value_after 10 next (drop (at + 1) digits)) most ≡ min (digits_value 10 digits) most)
    × (list_all is_ascii_digit (drop (at + 1) digits) ≡ true)
digit_more most number digits at next within all next_is value =
    let b : ℕ = get_or digits at 0 in
    let rest = drop (at + 1) digits in
    let more : drop at digits ≡ b ∷ rest = drop_more digits at 0 within in
    let parts = and_parts (is_ascii_digit b) (list_all is_ascii_digit rest) (rw more at all) in
    let digit : digit_value b + 48 ≡ b = digit_value_digit b (digit_range b parts.0) in
    let same : next ≡ min (number * 10 + digit_value b) most = next_is ∙ ap (λ (d : ℕ). min (number * 10 + d) most) (omega (arith, digit)) in
    (ap (λ (n : ℕ). min (digits_value_after 10 n rest) most) same ∙ cut_off most (number * 10 + digit_value b) rest ∙ rw more at value, parts.1)
