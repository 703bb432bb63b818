-- A reading that takes just the spellings of the values that fit: what it reads is spelled so, and
-- what is spelled so
-- it reads again, whatever follows. Here stand the notion and its steps for any field; `FieldLaws`
-- has those for
-- bytes, numbers, texts and lists, and `WholeLaws` those for whole bodies and records.
--
-- The law of a struct is one term, one line a field, which fits the `do` block of its reading and
-- its spelling, both
-- `unfoldable`. The spelling nests to the right, as in `x.a ∷ (big_bytes 4 x.n ++ [])`, and each
-- line names its field
-- and the spelling after it; the last line but one names what fits there:
--
--   byte_then (λ x. x.a) (λ x. big_bytes 4 x.n ++ []) _ _ _ (λ a a_fits.
--   number_then 4 wide4 (λ x. x.n) (λ x. []) (λ x. Unit {0}) _ _ (λ n n_fits.
--   Exact-done (record { a = a; n = n }) _ ((tt, refl), refl) (λ x k. rw (← k.0.1, ← k.1) refl)))
--
-- A text or a list is as long as a number before it says: there `text_then` takes `λ x k. k.1`,
-- which says so. An enum
-- is `tagged`, and for each tag a `tag_choice` with `Exact-value` or `Exact-as`, and `Exact-none`
-- at the end.
use Rattle.std.proofs.Common.{◌≡◌, ℕ, suc, ◌+◌, ◌<◌, Bool, true, false, cond, eqb, List, [], ◌∷◌}
use Rattle.std.proofs.Common.{◌++◌, get_or, take, drop, Option, Some, None, refl, sym, ap, subst}
use Rattle.std.proofs.Common.{◌∙◌, append_assoc, arith, inl, inr, ◌⊎◌}
use Rattle.std.proofs.lemmas.Bool.{cases_lt, eqb-true, eqb-false}
use Rattle.std.proofs.lemmas.List.{length-take, get_or-drop, get_or-take, get_or_past}
use Rattle.exact_text.specs.Readings.{◌>>=◌}

-- each is a byte
abbrev pub IsBytes : List ℕ → Type 0
IsBytes bytes = (i : ℕ) → get_or bytes i 0 < 256

pub IsBytes-drop : (n : ℕ) (bytes : List ℕ) → IsBytes bytes → IsBytes (drop n bytes)
IsBytes-drop n bytes h i = rw get_or-drop (h (n + i))

pub IsBytes-take : (n : ℕ) (bytes : List ℕ) → IsBytes bytes → IsBytes (take n bytes)
IsBytes-take n bytes h i =
    elim (cases_lt i n) [
      | inl lt ↦ rw (get_or-take n bytes i 0 lt) (h i)
      | inr le ↦ rw (get_or_past (take n bytes) i 0 (omega (arith, length-take n bytes)))
          (omega arith)
    ]

pub IsBytes-rest : (b : ℕ) (bytes : List ℕ) → IsBytes (b ∷ bytes) → IsBytes bytes
IsBytes-rest b bytes h i = h (suc i)

-- bytes are a text and then others
pub record Takes (bytes text rest : List ℕ) : Type 0 where
  pub parts : bytes ≡ text ++ rest
  pub rest_fits : IsBytes rest

-- The reading takes just the spellings of the values that fit, where it is known already what Knows
-- says of the value.
pub record ExactTail {A : Type 0} (read : List ℕ → Option (A × List ℕ)) (text : A → List ℕ)
    (Knows Fits : A → Type 0) : Type 0 where
  pub takes : (bytes : List ℕ) (x : A) (rest : List ℕ) → IsBytes bytes → read bytes ≡ Some (x, rest)
      → Takes bytes (text x) rest × Knows x × Fits x
  pub again : (x : A) (rest : List ℕ) → Knows x → Fits x → read (text x ++ rest) ≡ Some (x, rest)

abbrev pub Always : {A : Type 0} → A → Type 0
Always x = Unit {0}

-- The same, where nothing is known before.
abbrev pub Exact : {A : Type 0} → (List ℕ → Option (A × List ℕ)) → (A → List ℕ) → (A → Type 0)
    → Type 0
Exact read text Fits = ExactTail read text Always Fits

-- ---- Options and tests

-- Some, at a type that is told
abbrev pub given : {A : Type 0} → A → Option A
given x = Some x

pub some_is : {A : Type 0} (x y : A) → given x ≡ given y → x ≡ y
some_is x y e = cc

pub bind_some : {A B : Type 0} (o : Option A) (f : A → Option B) (y : B) → (o >>= f) ≡ Some y
    → (x : A) × (o ≡ Some x) × (f x ≡ Some y)
bind_some (Some x) f y e = (x, refl, e)
bind_some None f y e = absurd cc

pub guard_some : {A : Type 0} (t : Bool) (x y : A) → cond t (given x) None ≡ given y
    → (t ≡ true) × (x ≡ y)
guard_some true x y e = (refl, some_is x y e)
guard_some false x y e = absurd cc

pub guard_none : {A : Type 0} (t : Bool) (x y : A) → cond t None (given x) ≡ given y
    → (t ≡ false) × (x ≡ y)
guard_none true x y e = absurd cc
guard_none false x y e = (refl, some_is x y e)

-- ---- one field, and the end

-- a field, and then the rest of a value
pub field_then : {A X : Type 0} (read : List ℕ → Option (A × List ℕ)) (text : A → List ℕ)
    (Fits : A → Type 0) (field : X → A) (others : X → List ℕ) (Both Good : X → Type 0)
    (more : A × List ℕ → Option (X × List ℕ)) (Knows : X → Type 0)
    → Exact read text Fits
    → ((x : X) → Knows x → Fits (field x) → Good x → Both x)
    → ((x : X) → Knows x → Both x → Fits (field x) × Good x)
    → ((a : A) → Fits a → ExactTail (λ bytes. more (a, bytes)) others (λ x. Knows x × (field x ≡ a))
    Good)
    → ExactTail (λ bytes. read bytes >>= more) (λ x. text (field x) ++ others x) Knows Both
field_then {A} {X} read text Fits field others Both Good more Knows first to from second = record {
  takes = λ bytes x rest fits e.
      let b = bind_some (read bytes) more (x, rest) e in
      let t = first.takes bytes b.0.0 b.0.1 fits b.1 in
      let u = (second b.0.0 t.2).takes b.0.1 x rest t.0.rest_fits b.2 in
      let same : field x ≡ b.0.0 = u.1.1 in
      let parts : bytes ≡ (text b.0.0 ++ others x) ++ rest = t.0.parts
      ∙ ap (λ (z : List ℕ). text b.0.0 ++ z) u.0.parts
      ∙ sym (append_assoc (text b.0.0) (others x) rest) in (
        record {
          parts = subst (λ (a : A). bytes ≡ (text a ++ others x) ++ rest) (sym same) parts;
          rest_fits = u.0.rest_fits;
        },
        u.1.0,
        to x u.1.0 (subst Fits (sym same) t.2) u.2,
      );
  again = λ x rest known both.
      let good = from x known both in
      let regrouped : (text (field x) ++ others x) ++ rest ≡ text (field x) ++ (others x ++ rest) =
      append_assoc (text (field x)) (others x) rest in
      ap (λ (bytes : List ℕ). read bytes >>= more) regrouped
      ∙ rw (first.again (field x) (others x ++ rest) tt good.0)
      ((second (field x) good.0).again x rest (known, refl) good.1);
}

-- a value whose fields were all read
pub Exact-done : {X : Type 0} (value : X) (Knows : X → Type 0) → Knows value
    → ((x : X) → Knows x → x ≡ value)
    → ExactTail (λ rest. Some (value, rest)) (λ x. []) Knows Always
Exact-done {X} value Knows known only = record {
  takes = λ bytes x rest fits e.
      let same : (value, bytes) ≡ (x, rest) = some_is (value, bytes) (x, rest) e in
      let is : value ≡ x = ap (λ (p : X × List ℕ). p.0) same in
      let ends : bytes ≡ rest = ap (λ (p : X × List ℕ). p.1) same in
      (record { parts = ends; rest_fits = subst IsBytes ends fits }, subst Knows is known, tt);
  again = λ x rest h t. ap (λ (v : X). given (v, rest)) (sym (only x h));
}

-- ---- the same law in other words

-- the same text, spelled otherwise
pub Exact-text : {A : Type 0} (read : List ℕ → Option (A × List ℕ)) (text other : A → List ℕ)
    (Knows Fits : A → Type 0) → ((x : A) → text x ≡ other x) → ExactTail read text Knows Fits
    → ExactTail read other Knows Fits
Exact-text read text other Knows Fits same exact = record {
  takes = λ bytes x rest fits e. let t = exact.takes bytes x rest fits e in
      (record { parts = rw (← same x) t.0.parts; rest_fits = t.0.rest_fits }, t.1, t.2);
  again = λ x rest known good. rw (← same x) (exact.again x rest known good);
}
