-- The laws of the fields: bytes, numbers, texts, literals, lists of values and tagged values.
-- `byte_exact` is a
-- field's law, and `byte_then` is a field and then the rest of a value.
use Rattle.std.proofs.Common.{◌≡◌, ℕ, zero, suc, ◌^◌, ◌<◌, ◌≤◌, true, false, ltb, eqb, List, []}
use Rattle.std.proofs.Common.{◌∷◌, ◌++◌, length, take, drop, Option, Some, refl, sym, ap, subst}
use Rattle.std.proofs.Common.{eq-eqb, ◌∙◌, append_assoc, arith}
use Rattle.std.specs.List.{flat_map, AllByRecursion, starts_with}
use Rattle.std.proofs.lemmas.Bool.{ltb-false, le-ltb, eqb-true}
use Rattle.std.proofs.lemmas.Bool.Decides.{Decides-eqb}
use Rattle.std.proofs.lemmas.List.{take_at, drop_at, take-append-drop, length-append, length-take}
use Rattle.std.proofs.lemmas.List.{get_or-take}
use Rattle.std.proofs.lemmas.List.Concat.{flat_map-cons}
use Rattle.std.proofs.lemmas.Nat.{be_bytes_2, be_bytes_4, be_bytes_8}
use Rattle.std.proofs.lemmas.Slice.Eq.{starts_is}
use Rattle.byteorder.specs.Endian.{big_bytes, big_number}
use Rattle.byteorder.specs.Numbers.{big_number-reads_back, big_from-lt, length-bytes_high_first}
use Rattle.exact_text.specs.Readings.{◌>>=◌, byte_at, number_at, text_at, expected_at, literal_at}
use Rattle.exact_text.specs.Readings.{many_at}
use Rattle.exact_text.proofs.Exact.{IsBytes, IsBytes-drop, IsBytes-take, IsBytes-rest, Takes}
use Rattle.exact_text.proofs.Exact.{ExactTail, Exact, Always, some_is, bind_some, guard_some}
use Rattle.exact_text.proofs.Exact.{guard_none, field_then}

-- ---- bytes

byte_takes : (bytes : List ℕ) (b : ℕ) (rest : List ℕ) → IsBytes bytes
    → byte_at bytes ≡ Some (b, rest) → Takes bytes (b ∷ []) rest × Always b × (b < 256)
byte_takes [] b rest fits e = absurd cc
byte_takes (a ∷ bytes) b rest fits e =
    let same = some_is (a, bytes) (b, rest) e in
    let first : a ≡ b = ap (λ (p : ℕ × List ℕ). p.0) same in
    let others : bytes ≡ rest = ap (λ (p : ℕ × List ℕ). p.1) same in (
      record {
        parts = rw (first, others) refl;
        rest_fits = subst IsBytes others (IsBytes-rest a bytes fits);
      },
      tt,
      subst (λ (n : ℕ). n < 256) first (fits 0),
    )

pub byte_exact : Exact byte_at (λ b. b ∷ []) (λ b. b < 256)
byte_exact = record {
  takes = λ bytes x rest fits e. byte_takes bytes x rest fits e;
  again = λ x rest t good. refl;
}

-- a byte, and then the rest of a value
pub byte_then : {X : Type 0} (field : X → ℕ) (others : X → List ℕ) (Good : X → Type 0)
    (more : ℕ × List ℕ → Option (X × List ℕ)) (Knows : X → Type 0)
    → ((b : ℕ) → b < 256 → ExactTail (λ bytes. more (b, bytes)) others
    (λ x. Knows x × (field x ≡ b)) Good)
    → ExactTail (λ bytes. byte_at bytes >>= more) (λ x. field x ∷ others x) Knows
    (λ x. (field x < 256) × Good x)
byte_then field others Good more Knows second =
    field_then byte_at (λ b. b ∷ []) (λ b. b < 256) field others (λ x. (field x < 256) × Good x)
    Good more Knows byte_exact (λ x k f g. (f, g)) (λ x k h. h) second

-- ---- given bytes

pub literal_parts : (front bytes rest : List ℕ) → literal_at front bytes ≡ Some rest
    → (bytes ≡ front ++ rest) × (rest ≡ drop (length front) bytes)
literal_parts front bytes rest e =
    let g = guard_some (starts_with eqb bytes front) (drop (length front) bytes) rest e in
    let s = starts_is Decides-eqb bytes front (starts_with eqb bytes front) refl in
    (s.0 g.0 ∙ ap (λ (z : List ℕ). front ++ z) g.1, sym g.1)

pub literal_again : (front rest : List ℕ) → literal_at front (front ++ rest) ≡ Some rest
literal_again front rest =
    let s = starts_is Decides-eqb (front ++ rest) front (starts_with eqb (front ++ rest) front)
    refl in
    let starts : starts_with eqb (front ++ rest) front ≡ true = s.1 rest refl in
    rw (starts, drop_at front rest (length front) refl) refl

-- ---- texts

pub text_exact : (n : ℕ) → Exact (text_at n) (λ text. text) (λ text. length text ≡ n)
text_exact n = record {
  takes = λ bytes x rest fits e.
      let g = guard_none (ltb (length bytes) n) (take n bytes, drop n bytes) (x, rest) e in
      let long : n ≤ length bytes = ltb-false _ _ g.0 in
      let front : take n bytes ≡ x = ap (λ (p : List ℕ × List ℕ). p.0) g.1 in
      let behind : drop n bytes ≡ rest = ap (λ (p : List ℕ × List ℕ). p.1) g.1 in (
        record {
          parts = rw (← front, ← behind) (sym (take-append-drop n bytes));
          rest_fits = subst IsBytes behind (IsBytes-drop n bytes fits);
        },
        tt,
        omega (arith, length-take n bytes, ap length front),
      );
  again = λ x rest t good.
      let long : ltb (length (x ++ rest)) n ≡ false =
      le-ltb _ _ (omega (arith, length-append x rest, good)) in
      rw (long, take_at x rest n good, drop_at x rest n good) refl;
}

-- a given number of bytes, and then the rest of a value
pub text_then : {X : Type 0} (n : ℕ) (field : X → List ℕ) (others : X → List ℕ) (Good : X → Type 0)
    (more : List ℕ × List ℕ → Option (X × List ℕ)) (Knows : X → Type 0)
    → ((x : X) → Knows x → length (field x) ≡ n)
    → ((text : List ℕ) → length text ≡ n
    → ExactTail (λ bytes. more (text, bytes)) others (λ x. Knows x × (field x ≡ text)) Good)
    → ExactTail (λ bytes. text_at n bytes >>= more) (λ x. field x ++ others x) Knows Good
text_then n field others Good more Knows long second =
    field_then (text_at n) (λ text. text) (λ text. length text ≡ n) field others Good Good more
    Knows (text_exact n) (λ x k f g. g) (λ x k g. (long x k, g)) second

-- ---- numbers

-- numbers of k bytes can be written again as they stood
pub record IsWide (k : ℕ) : Type 0 where
  pub back : (bytes : List ℕ) → length bytes ≡ k → IsBytes bytes
      → big_bytes k (big_number k bytes) ≡ bytes
  pub first : (bytes : List ℕ) → k ≤ length bytes → big_number k (take k bytes) ≡ big_number k bytes

pub wide2 : IsWide 2
wide2 = record {
  back = λ bytes len fits. be_bytes_2 bytes (big_number 2 bytes) len fits (omega arith);
  first = λ bytes long. rw (
    get_or-take 2 bytes 0 0 (omega arith),
    get_or-take 2 bytes 1 0 (omega arith),
  ) refl;
}

pub wide4 : IsWide 4
wide4 = record {
  back = λ bytes len fits. be_bytes_4 bytes (big_number 4 bytes) len fits (omega arith);
  first = λ bytes long. rw (
    get_or-take 4 bytes 0 0 (omega arith),
    get_or-take 4 bytes 1 0 (omega arith),
    get_or-take 4 bytes 2 0 (omega arith),
    get_or-take 4 bytes 3 0 (omega arith),
  ) refl;
}

pub wide8 : IsWide 8
wide8 = record {
  back = λ bytes len fits. be_bytes_8 bytes (big_number 8 bytes) len fits (omega arith);
  first = λ bytes long. rw (
    get_or-take 8 bytes 0 0 (omega arith),
    get_or-take 8 bytes 1 0 (omega arith),
    get_or-take 8 bytes 2 0 (omega arith),
    get_or-take 8 bytes 3 0 (omega arith),
    get_or-take 8 bytes 4 0 (omega arith),
    get_or-take 8 bytes 5 0 (omega arith),
    get_or-take 8 bytes 6 0 (omega arith),
    get_or-take 8 bytes 7 0 (omega arith),
  ) refl;
}

pub number_exact : (k : ℕ) → IsWide k → Exact (number_at k) (big_bytes k) (λ n. n < 256 ^ k)
number_exact k wide = record {
  takes = λ bytes x rest fits e.
      let g = guard_none (ltb (length bytes) k) (big_number k bytes, drop k bytes) (x, rest) e in
      let long : k ≤ length bytes = ltb-false _ _ g.0 in
      let value : big_number k bytes ≡ x = ap (λ (p : ℕ × List ℕ). p.0) g.1 in
      let behind : drop k bytes ≡ rest = ap (λ (p : ℕ × List ℕ). p.1) g.1 in
      let front : big_bytes k x ≡ take k bytes =
      rw (← value, ← wide.first bytes long)
      (wide.back (take k bytes) (omega (arith, length-take k bytes))
      (IsBytes-take k bytes fits)) in (
        record {
          parts = rw (front, ← behind) (sym (take-append-drop k bytes));
          rest_fits = subst IsBytes behind (IsBytes-drop k bytes fits);
        },
        tt,
        rw (← value) (big_from-lt 0 k bytes fits),
      );
  again = λ x rest t good.
      let len : length (big_bytes k x) ≡ k = length-bytes_high_first k x in
      let long : ltb (length (big_bytes k x ++ rest)) k ≡ false =
      le-ltb _ _ (omega (arith, length-append (big_bytes k x) rest)) in
      rw (long, big_number-reads_back k x rest good, drop_at (big_bytes k x) rest k len) refl;
}

-- a number of k bytes, and then the rest of a value
pub number_then : {X : Type 0} (k : ℕ) (wide : IsWide k) (field : X → ℕ) (others : X → List ℕ)
    (Good : X → Type 0) (more : ℕ × List ℕ → Option (X × List ℕ)) (Knows : X → Type 0)
    → ((n : ℕ) → n < 256 ^ k → ExactTail (λ bytes. more (n, bytes)) others
    (λ x. Knows x × (field x ≡ n)) Good)
    → ExactTail (λ bytes. number_at k bytes >>= more) (λ x. big_bytes k (field x) ++ others x) Knows
    (λ x. (field x < 256 ^ k) × Good x)
number_then k wide field others Good more Knows second =
    field_then (number_at k) (big_bytes k) (λ n. n < 256 ^ k) field others
    (λ x. (field x < 256 ^ k) × Good x) Good more Knows (number_exact k wide) (λ x k f g. (f, g))
    (λ x k h. h) second

-- ---- lists

many_takes : {A : Type 0} (read : List ℕ → Option (A × List ℕ)) (text : A → List ℕ)
    (Fits : A → Type 0) → Exact read text Fits
    → (n : ℕ) (bytes : List ℕ) (xs : List A) (rest : List ℕ) → IsBytes bytes
    → many_at read n bytes ≡ Some (xs, rest)
    → Takes bytes (flat_map text xs) rest × Always xs × ((length xs ≡ n) × AllByRecursion Fits xs)
many_takes {A} read text Fits exact zero bytes xs rest fits e =
    let same = some_is ([], bytes) (xs, rest) e in
    let none : [] ≡ xs = ap (λ (p : List A × List ℕ). p.0) same in
    let behind : bytes ≡ rest = ap (λ (p : List A × List ℕ). p.1) same in
    subst (λ (ys : List A). Takes bytes (flat_map text ys) rest × Always ys
    × ((length ys ≡ 0) × AllByRecursion Fits ys)) none
    (record { parts = behind; rest_fits = subst IsBytes behind fits }, tt, (refl, tt))
many_takes {A} read text Fits exact (suc n) bytes xs rest fits e =
    let a = bind_some (read bytes)
    (λ first. many_at read n first.1 >>= λ others. Some (first.0 ∷ others.0, others.1))
    (xs, rest) e in
    let b = bind_some (many_at read n a.0.1) (λ others. Some (a.0.0 ∷ others.0, others.1))
    (xs, rest) a.2 in
    let first = exact.takes bytes a.0.0 a.0.1 fits a.1 in
    let others = many_takes read text Fits exact n a.0.1 b.0.0 b.0.1 first.0.rest_fits b.1 in
    let same = some_is (a.0.0 ∷ b.0.0, b.0.1) (xs, rest) b.2 in
    let is : a.0.0 ∷ b.0.0 ≡ xs = ap (λ (p : List A × List ℕ). p.0) same in
    let behind : b.0.1 ≡ rest = ap (λ (p : List A × List ℕ). p.1) same in
    let parts : bytes ≡ (text a.0.0 ++ flat_map text b.0.0) ++ b.0.1 = first.0.parts
    ∙ ap (λ (z : List ℕ). text a.0.0 ++ z) others.0.parts
    ∙ sym (append_assoc (text a.0.0) (flat_map text b.0.0) b.0.1) in
    let whole : bytes ≡ flat_map text (a.0.0 ∷ b.0.0) ++ b.0.1 =
    rw (flat_map-cons text a.0.0 b.0.0) parts in
    subst (λ (ys : List A). Takes bytes (flat_map text ys) rest × Always ys
    × ((length ys ≡ suc n) × AllByRecursion Fits ys)) is (
      record {
        parts = subst (λ (z : List ℕ). bytes ≡ flat_map text (a.0.0 ∷ b.0.0) ++ z) behind
            whole;
        rest_fits = subst IsBytes behind others.0.rest_fits;
      },
      tt,
      (ap suc others.2.0, (first.2, others.2.1)),
    )

many_again : {A : Type 0} (read : List ℕ → Option (A × List ℕ)) (text : A → List ℕ)
    (Fits : A → Type 0) → Exact read text Fits → (xs : List A) (rest : List ℕ)
    → AllByRecursion Fits xs → many_at read (length xs) (flat_map text xs ++ rest) ≡ Some (xs, rest)
many_again read text Fits exact [] rest fits = refl
many_again {A} read text Fits exact (x ∷ xs) rest fits =
    let regrouped : flat_map text (x ∷ xs) ++ rest ≡ text x ++ (flat_map text xs ++ rest) =
    ap (λ (z : List ℕ). z ++ rest) (flat_map-cons text x xs)
    ∙ append_assoc (text x) (flat_map text xs) rest in
    ap (many_at read (suc (length xs))) regrouped
    ∙ rw (
      exact.again x (flat_map text xs ++ rest) tt fits.0,
      many_again read text Fits exact xs rest fits.1,
    ) refl

-- values one after the other
pub many_exact : {A : Type 0} (read : List ℕ → Option (A × List ℕ)) (text : A → List ℕ)
    (Fits : A → Type 0) → Exact read text Fits → (n : ℕ)
    → Exact (many_at read n) (flat_map text) (λ xs. (length xs ≡ n) × AllByRecursion Fits xs)
many_exact {A} read text Fits exact n = record {
  takes = λ bytes xs rest fits e. many_takes read text Fits exact n bytes xs rest fits e;
  again = λ xs rest t good. subst
      (λ (k : ℕ). many_at read k (flat_map text xs ++ rest) ≡ Some (xs, rest)) good.0
      (many_again read text Fits exact xs rest good.1);
}
