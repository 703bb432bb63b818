-- Numbers in lines, and how a text is cut that is put together of parts.
use Rattle.std.proofs.Common.{◌≡◌, ℕ, ◌+◌, ◌^◌, ◌<◌, ◌≤◌, Bool, true, false, not, ◌&&◌, cond, List, [], ◌∷◌, ◌++◌, length, get_or, take, drop}
use Rattle.std.proofs.Common.{Option, Some, None, option_map, decimal, refl, sym, ap, ◌∙◌, subst, arith, ltb, leb, eqb, All, length-append, drop-drop, take_all}
use Rattle.std.specs.Prelude.{position}
use Rattle.std.specs.Char.{digit_value, is_ascii_digit}
use Rattle.std.specs.Int.{IsInRange}
use Rattle.std.specs.List.{list_all, slice_split, position_or_len, before_first}
use Rattle.std.specs.Str.Parse.{IsNumeral, AllDigits, digits_value}
use Rattle.std.proofs.lemmas.Bool.{and_parts, and_from, lt-ltb, le-leb, le-ltb, eq-eqb, ne_eqb, not-true}
use Rattle.std.proofs.lemmas.Fmt.{decimal_is_IsNumeral, length-decimal-le, decimal_nonempty}
use Rattle.std.proofs.lemmas.List.{take_at, drop_at}
use Rattle.std.proofs.lemmas.List.Folds.{list_all-append}
use Rattle.std.proofs.lemmas.List.Splits.{slice_split_at, slice_split_none}
use Rattle.std.proofs.lemmas.List.Sums.{AllPass-from_list_all}
use Rattle.std.proofs.lemmas.Str.Parse.{digit_from_value}
use Rattle.sdp_audio.specs.Line.{cut_at, is_numeral, number_in}

-- ---- numbers

digit_is : (b : ℕ) → digit_value b < 10 → is_ascii_digit b ≡ true
digit_is b h = let r : IsInRange 48 57 b = digit_from_value b h in and_from (leb 48 b) (leb b 57) (le-leb 48 b r.0) (le-leb b 57 r.1)

digits_are : (ds : List ℕ) → AllDigits 10 ds → list_all is_ascii_digit ds ≡ true
digits_are [] h = refl
digits_are (d ∷ ds) h = and_from (is_ascii_digit d) (list_all is_ascii_digit ds) (digit_is d h.0) (digits_are ds h.1)

numeral_is : (n : ℕ) → n < 10 ^ 10 → is_numeral (decimal n) ≡ true
numeral_is n low =
    let text = decimal n in
    let short : n < 2 ^ 64 = omega (arith, low) in
    let some = lt-ltb 0 (length text) (decimal_nonempty n short) in
    let few = le-leb (length text) 10 (length-decimal-le 10 n (omega arith) low short) in
    and_from (ltb 0 (length text) && leb (length text) 10) (list_all is_ascii_digit text)
    (and_from (ltb 0 (length text)) (leb (length text) 10) some few) (digits_are text (decimal_is_IsNumeral n short).0.1)

picked : (test : Bool) (v n : ℕ) → test ≡ true → v ≡ n → cond test (Some v) None ≡ Some n
picked test v n t e = rw t (ap Some e)

-- a decimal number is read
pub number_is : (least most n : ℕ) → least ≤ n → n ≤ most → most < 10 ^ 10 → number_in least most (decimal n) ≡ Some n
number_is least most n from to low =
    let text = decimal n in
    let v = digits_value 10 text in
    let short : n < 2 ^ 64 = omega (arith, low, to) in
    let e : v ≡ n = (decimal_is_IsNumeral n short).1 in
    picked (is_numeral text && leb least v && leb v most) v n
    (and_from (is_numeral text && leb least v) (leb v most)
    (and_from (is_numeral text) (leb least v) (numeral_is n (omega (arith, low, to))) (le-leb least v (omega (arith, from, e))))
    (le-leb v most (omega (arith, to, e)))) e

-- ---- texts without a byte

-- a text lacks a byte
abbrev pub lacks : ℕ → List ℕ → Bool
lacks byte text = list_all (λ b. not (eqb b byte)) text

pub lacks_both : (byte : ℕ) (xs ys : List ℕ) → lacks byte xs ≡ true → lacks byte ys ≡ true → lacks byte (xs ++ ys) ≡ true
lacks_both byte xs ys a b = list_all-append (λ c. not (eqb c byte)) xs ys ∙ and_from (lacks byte xs) (lacks byte ys) a b

pub lacks_each : (byte : ℕ) (xs : List ℕ) → lacks byte xs ≡ true → All (λ b. eqb b byte ≡ false) xs
lacks_each byte xs h = λ k d within. not-true (eqb (get_or xs k d) byte) (AllPass-from_list_all (λ b. not (eqb b byte)) xs h k d within)

digits_lack : (byte : ℕ) (ds : List ℕ) → byte < 48 → AllDigits 10 ds → lacks byte ds ≡ true
digits_lack byte [] low h = refl
digits_lack byte (d ∷ ds) low h =
    let r : IsInRange 48 57 d = digit_from_value d h.0 in
    let other : eqb d byte ≡ false = ne_eqb d byte (λ e. omega (arith, r.0, low, e)) in
    and_from (not (eqb d byte)) (lacks byte ds) (ap not other) (digits_lack byte ds low h.1)

-- a number lacks what is no digit
pub number_lacks : (byte n : ℕ) → byte < 48 → n < 10 ^ 10 → lacks byte (decimal n) ≡ true
number_lacks byte n low small = digits_lack byte (decimal n) low (decimal_is_IsNumeral n (omega (arith, small))).0.1

-- ---- cuts

first_at : (byte : ℕ) (xs ys : List ℕ) → lacks byte xs ≡ true → position_or_len (λ b. eqb b byte) (xs ++ byte ∷ ys) ≡ length xs
first_at byte [] ys h = rw (eq-eqb byte byte refl) refl
first_at byte (x ∷ xs) ys h =
    let parts = and_parts (not (eqb x byte)) (lacks byte xs) h in
    let rest = first_at byte xs ys parts.1 in
    rw (parts.0, rest) (omega arith)

none_at : (byte : ℕ) (xs : List ℕ) → lacks byte xs ≡ true → position_or_len (λ b. eqb b byte) xs ≡ length xs
none_at byte [] h = refl
none_at byte (x ∷ xs) h =
    let parts = and_parts (not (eqb x byte)) (lacks byte xs) h in
    let rest = none_at byte xs parts.1 in
    rw (parts.0, rest) (omega arith)

placed : (pos len n : ℕ) → pos ≡ n → n < len → cond (ltb pos len) (Some pos) None ≡ Some n
placed pos len n e within = rw (e, lt-ltb n len within) refl

missed : (pos len : ℕ) → pos ≡ len → cond (ltb pos len) (Some pos) None ≡ None
missed pos len e = rw (e, le-ltb len len (omega arith)) refl

-- the parts around a byte that the first of them lacks
pub cut_is : (byte : ℕ) (xs ys : List ℕ) → lacks byte xs ≡ true → cut_at byte (xs ++ byte ∷ ys) ≡ Some (xs, ys)
cut_is byte xs ys h =
    let text : List ℕ = xs ++ byte ∷ ys in
    let place : position (λ b. eqb b byte) text ≡ Some (length xs) =
    placed (position_or_len (λ b. eqb b byte) text) (length text) (length xs) (first_at byte xs ys h)
    (omega (arith, length-append xs (byte ∷ ys))) in
    let before : take (length xs) text ≡ xs = take_at xs (byte ∷ ys) (length xs) refl in
    let after : drop (length xs + 1) text ≡ ys =
    sym (drop-drop 1 (length xs) text) ∙ ap (drop 1) (drop_at xs (byte ∷ ys) (length xs) refl) in
    ap (option_map (λ (at : ℕ). (take at text, drop (at + 1) text))) place
    ∙ ap (λ (t : List ℕ). Some (t, drop (length xs + 1) text)) before
    ∙ ap (λ (t : List ℕ). Some (xs, t)) after

-- a text without the byte is not cut
pub no_cut : (byte : ℕ) (xs : List ℕ) → lacks byte xs ≡ true → cut_at byte xs ≡ None
no_cut byte xs h =
    ap (option_map (λ (at : ℕ). (take at xs, drop (at + 1) xs)))
    (missed (position_or_len (λ b. eqb b byte) xs) (length xs) (none_at byte xs h))

-- all of a text without the byte stands before it
pub before_is : (byte : ℕ) (xs : List ℕ) → lacks byte xs ≡ true → before_first (λ b. eqb b byte) xs ≡ xs
before_is byte xs h = ap (λ (n : ℕ). take n xs) (none_at byte xs h) ∙ take_all (length xs) xs (omega arith)

-- the parts between bytes
pub split_is : (byte : ℕ) (xs ys : List ℕ) → lacks byte xs ≡ true
    → slice_split (λ b. eqb b byte) (xs ++ byte ∷ ys) ≡ xs ∷ slice_split (λ b. eqb b byte) ys
split_is byte xs ys h = slice_split_at (λ b. eqb b byte) xs byte ys (lacks_each byte xs h) (eq-eqb byte byte refl)

pub one_part : (byte : ℕ) (xs : List ℕ) → lacks byte xs ≡ true → slice_split (λ b. eqb b byte) xs ≡ xs ∷ []
one_part byte xs h = slice_split_none (λ b. eqb b byte) xs (lacks_each byte xs h)
