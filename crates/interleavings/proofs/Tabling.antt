-- Tables of blocks.
use Rattle.std.proofs.Common.{◌≡◌, ℕ, zero, suc, ◌<◌, Bool, false, eqb, List, [], ◌∷◌, ◌++◌}
use Rattle.std.proofs.Common.{length, set, Option, Some, None, inl, inr, refl, sym, ap, ◌∙◌, arith}
use Rattle.std.proofs.Common.{ℤ}
use Rattle.std.specs.Prelude.{◌&&◌, if◌then◌else◌, slice_get}
use Rattle.std.specs.BTreeMap.{BTreeMap, get, is_at}
use Rattle.std.specs.Option.{option_map_or}
use Rattle.std.specs.Ordering.{is_eq, nat_cmp}
use Rattle.std.proofs.lemmas.Bool.{cases_Bool, eqb-true, ne_eqb}
use Rattle.std.proofs.lemmas.Bool.Decides.{nat_tests}
use Rattle.std.proofs.lemmas.Option.{slice_get_within}
use Rattle.interleavings.specs.Core.{set_at}

-- the blocks of an input
abbrev pub TickMap : Type 0
TickMap = BTreeMap ℕ (List ℤ)

pub none_more : (table : List TickMap) (blocks : TickMap)
    → ((tick : ℕ) → get nat_cmp blocks tick ≡ None)
    → ((input tick : ℕ) → set_at table input tick ≡ None)
    → (input tick : ℕ) → set_at (table ++ blocks ∷ []) input tick ≡ None
none_more [] blocks empty none zero tick = empty tick
none_more [] blocks empty none (suc input) tick = refl
none_more (x ∷ table) blocks empty none zero tick = none zero tick
none_more (x ∷ table) blocks empty none (suc input) tick =
    none_more table blocks empty (λ i t. none (suc i) t) input tick

same_next : (a b : ℕ) → eqb a b ≡ eqb (suc a) (suc b)
same_next a b = grind (arith, nat_tests)

pub set_here : (table : List TickMap) (input : ℕ) (blocks : TickMap) → input < length table
    → (i t : ℕ) → set_at (set table input blocks) i t
    ≡ (if eqb input i then get nat_cmp blocks t else set_at table i t)
set_here [] input blocks within i t = absurd (omega (arith, within))
set_here (x ∷ table) zero blocks within zero t = refl
set_here (x ∷ table) zero blocks within (suc i) t = let off : eqb 0 (suc i) ≡ false =
    ne_eqb 0 (suc i) (λ e. omega (arith, e)) in rw off refl
set_here (x ∷ table) (suc input) blocks within zero t =
    let off : eqb (suc input) 0 ≡ false =
    ne_eqb (suc input) 0 (λ e. omega (arith, e)) in rw off refl
set_here (x ∷ table) (suc input) blocks within (suc i) t =
    set_here table input blocks (omega (arith, within)) i t
    ∙ ap (λ (b : Bool). if b then get nat_cmp blocks t else set_at table i t) (same_next input i)

same_key : (a b : ℕ) → is_eq (nat_cmp a b) ≡ eqb a b
same_key a b = grind (arith, nat_tests)

chosen : (a b : Bool) (x y : Option (List ℤ)) → a ≡ b → (if a then x else y) ≡ (if b then x else y)
chosen a b x y same = ap (λ (c : Bool). if c then x else y) same

-- a table whose blocks of an input have a block at a tick
pub put_in : (table : List TickMap) (input tick : ℕ) (block : List ℤ) (old new : TickMap)
    → slice_get table input ≡ Some old
    → ((q : ℕ) → get nat_cmp new q
    ≡ (if is_at (nat_cmp tick) q then Some block else get nat_cmp old q))
    → (i t : ℕ) → set_at (set table input new) i t
    ≡ (if eqb input i && eqb tick t then Some block else set_at table i t)
put_in table input tick block old new there updates i t =
    set_here table input new (slice_get_within table input old there) i t
    ∙ elim (cases_Bool (eqb input i)) [
      | inl here ↦
          let same : input ≡ i = eqb-true input i here in
          let was : get nat_cmp old t ≡ set_at table i t =
          sym (ap (λ (o : Option TickMap). option_map_or (λ blocks. get nat_cmp blocks t) o None)
          there) ∙ ap (λ (n : ℕ). set_at table n t) same in
          rw here (updates t
          ∙ chosen (is_at (nat_cmp tick) t) (eqb tick t) (Some block) (get nat_cmp old t)
          (same_key tick t)
          ∙ ap (λ (o : Option (List ℤ)). if eqb tick t then Some block else o) was)
      | inr other ↦ rw other refl
    ]
