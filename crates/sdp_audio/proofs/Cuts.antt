-- How a text is cut at a byte, and its first line.
use Rattle.std.proofs.Common.{◌≡◌, ℕ, ◌+◌, ◌-◌, ◌<◌, ◌≤◌, Bool, true, false, List, [], ◌∷◌, ◌++◌, length, get_or, take, drop, cond}
use Rattle.std.proofs.Common.{Option, Some, None, refl, sym, ap, ◌∙◌, subst, arith, inl, inr, ltb, eqb, length-drop, take_all}
use Rattle.std.specs.Prelude.{position}
use Rattle.std.specs.List.{slice_split, position_or_len, All}
use Rattle.std.specs.Str.Lines.{lines, lines_of_parts, strip_carriage_return}
use Rattle.std.proofs.lemmas.Bool.{cases_lt, lt-ltb, ne_eqb}
use Rattle.std.proofs.lemmas.List.Splits.{slice_split_first, slice_split_none, length-slice_split}
use Rattle.std.proofs.lemmas.List.Quantifiers.{position-Some}
use Rattle.std.proofs.lemmas.List.Sums.{position_or_len_is, fails_before_first}

-- the place that is found
pub found_at : {X : Type 0} (p : X → Bool) (xs : List X) (at : ℕ) (d : X) → position p xs ≡ Some at → (at ≡ position_or_len p xs) × (at < length xs)
found_at p xs at d e =
    let found = position-Some p xs at d e in
    (sym (position_or_len_is p xs at d (omega (arith, found.0)) found.2 (λ lt. found.1)), found.0)

-- no place is found
pub none_found : {X : Type 0} (p : X → Bool) (xs : List X) → position p xs ≡ None → All (λ x. p x ≡ false) xs
none_found p xs e = elim (cases_lt (position_or_len p xs) (length xs)) [
  | inl lt ↦
      let test : ltb (position_or_len p xs) (length xs) ≡ true = lt-ltb _ _ lt in
      let none : cond (ltb (position_or_len p xs) (length xs)) (Some (position_or_len p xs)) None ≡ None = e in
      let some : Some (position_or_len p xs) ≡ None = rw test at none in
      absurd cc
  | inr le ↦ λ k d within. fails_before_first p xs k d (omega (arith, le, within))
]

-- the parts at the place that is found
pub split_found : {X : Type 0} (p : X → Bool) (xs : List X) (at : ℕ) (d : X) → position p xs ≡ Some at
    → slice_split p xs ≡ take at xs ∷ slice_split p (drop (at + 1) xs)
split_found p xs at d e =
    let found = found_at p xs at d e in
    let within : position_or_len p xs < length xs = omega (arith, found.0, found.1) in
    let first = slice_split_first p xs d within in
    subst (λ (k : ℕ). slice_split p xs ≡ take k xs ∷ slice_split p (drop (k + 1) xs)) (sym found.0) first

-- the one part where no place is found
pub split_none : {X : Type 0} (p : X → Bool) (xs : List X) → position p xs ≡ None → slice_split p xs ≡ xs ∷ []
split_none p xs e = slice_split_none p xs (none_found p xs e)

-- the same, the second part by its length
pub found_parts : {X : Type 0} (p : X → Bool) (xs : List X) (at : ℕ) (d : X) → position p xs ≡ Some at
    → slice_split p xs ≡ take at xs ∷ slice_split p (take (length xs - (at + 1)) (drop (at + 1) xs))
found_parts p xs at d e =
    let all : take (length xs - (at + 1)) (drop (at + 1) xs) ≡ drop (at + 1) xs =
    take_all (length xs - (at + 1)) (drop (at + 1) xs) (omega (arith, length-drop (at + 1) xs)) in
    split_found p xs at d e ∙ ap (λ rest. take at xs ∷ slice_split p rest) (sym all)

pub shorter : (text : List ℕ) (at : ℕ) → at < length text → length (drop (at + 1) text) < length text
shorter text at within = omega (arith, length-drop (at + 1) text, within)

-- ---- lines

before_more : (line : List ℕ) (parts : List (List ℕ)) → 0 < length parts
    → lines_of_parts (line ∷ parts) ≡ strip_carriage_return line ∷ lines_of_parts parts
before_more line [] some = absurd (omega (arith, some))
before_more line (part ∷ parts) some = refl

-- a line that ends, and those below it
pub first_line : (text line below : List ℕ) → slice_split (λ b. eqb b 10) text ≡ line ∷ slice_split (λ b. eqb b 10) below
    → lines text ≡ strip_carriage_return line ∷ lines below
first_line text line below e =
    ap lines_of_parts e ∙ before_more line (slice_split (λ b. eqb b 10) below) (omega (arith, length-slice_split (λ (b : ℕ). eqb b 10) below))

last_part : (text : List ℕ) → 0 < length text → lines_of_parts (text ∷ []) ≡ text ∷ []
last_part text some = ap (λ t. cond t [] (text ∷ [])) (ne_eqb (length text) 0 (λ z. omega (arith, some, z)))

-- the last line, without an end
pub last_line : (text : List ℕ) → 0 < length text → slice_split (λ b. eqb b 10) text ≡ text ∷ [] → lines text ≡ text ∷ []
last_line text some e = ap lines_of_parts e ∙ last_part text some
