-- A tick of which no frame holds anything.
use Rattle.std.proofs.Common.{◌≡◌, ℕ, zero, suc, ◌+◌, ◌*◌, ◌<◌, ◌≤◌, Bool, true, false, cond, List}
use Rattle.std.proofs.Common.{[], ◌∷◌, ◌++◌, length, map, Option, Some, None, refl, sym, ap, subst}
use Rattle.std.proofs.Common.{◌∙◌, arith, ℤ, pos}
use Rattle.std.specs.Prelude.{replicate, is_some, unwrap_or, IfSome}
use Rattle.std.specs.List.{flat_map, list_any, range_with_len}
use Rattle.std.proofs.Math.Nat.{add-mul}
use Rattle.std.proofs.lemmas.List.Concat.{flat_map-cons}
use Rattle.list_laws.proofs.Ranges.{map_same, flat_map_same}
use Rattle.block_builder.specs.declared.intake.Intake.{Intake}
use Rattle.block_builder.specs.Blocks.{Held, block_by, is_held, tick_samples}
use Rattle.block_builder.specs.Window.{IsShown, IsAbsent}

replicate_join : {X : Type 0} (a b : ℕ) (x : X)
    → replicate a x ++ replicate b x ≡ replicate (a + b) x
replicate_join zero b x = let z : 0 + b ≡ b = omega arith in rw z refl
replicate_join {X} (suc a) b x =
    let e : suc a + b ≡ suc (a + b) = omega arith in
    ap (λ (xs : List X). x ∷ xs) (replicate_join a b x) ∙ ap (λ (k : ℕ). replicate k x) (sym e)

flat_map_blank : {X : Type 0} (c : ℕ) (x : X) (a n : ℕ)
    → flat_map (λ (k : ℕ). replicate c x) (range_with_len a n) ≡ replicate (n * c) x
flat_map_blank c x a zero = let z : 0 * c ≡ 0 = omega arith in rw z refl
flat_map_blank {X} c x a (suc n) =
    let e : n + 1 ≡ suc n = omega arith in
    let t : suc n * c ≡ n * c + 1 * c = ap (λ (k : ℕ). k * c) (sym e) ∙ add-mul n 1 c in
    let u : c + n * c ≡ suc n * c = omega (arith, t) in
    flat_map-cons (λ (k : ℕ). replicate c x) a (range_with_len (a + 1) n)
    ∙ ap (λ (xs : List X). replicate c x ++ xs) (flat_map_blank c x (a + 1) n)
    ∙ replicate_join c (n * c) x ∙ ap (λ (k : ℕ). replicate k x) u

map_blank : {X : Type 0} (x : X) (a n : ℕ) → map (λ (k : ℕ). x) (range_with_len a n) ≡ replicate n x
map_blank x a zero = refl
map_blank {X} x a (suc n) = ap (λ (xs : List X). x ∷ xs) (map_blank x (a + 1) n)

whole_none : (n : Intake) (o : Option (List ℤ)) → o ≡ None → IfSome o (λ x. length x ≡ n.channels)
whole_none n o e = subst (λ (p : Option (List ℤ)). IfSome p (λ x. length x ≡ n.channels)) (sym e) tt

pub blank_shown : (n : Intake) (c : Held) → IsAbsent n c
    → IsShown n c (replicate (n.frames * n.channels) (pos 0)) (replicate n.frames false)
blank_shown n c none =
    record {
      samples_are =
          sym (flat_map_same (λ k. unwrap_or (c k) (replicate n.channels (pos 0)))
          (λ k. replicate n.channels (pos 0)) 0 n.frames
          (λ k le lt. ap (λ (o : Option (List ℤ)). unwrap_or o (replicate n.channels (pos 0)))
          (none k (omega (arith, lt))))
          ∙ flat_map_blank n.channels (pos 0) 0 n.frames);
      flags_are = sym (map_same (λ k. is_some (c k)) (λ k. false) 0 n.frames
          (λ k le lt. ap is_some (none k (omega (arith, lt)))) ∙ map_blank false 0 n.frames);
      whole = λ f lt. whole_none n (c f) (none f lt);
    }

any_flags : (g : ℕ → Bool) (xs : List ℕ) → list_any (λ (b : Bool). b) (map g xs) ≡ list_any g xs
any_flags g [] = refl
any_flags g (x ∷ xs) = grind (arith, any_flags g xs)

pub shown_held : (n : Intake) (c : Held) (s : List ℤ) (h : List Bool) → IsShown n c s h
    → list_any (λ (b : Bool). b) h ≡ is_held n c
shown_held n c s h shown = ap (list_any (λ (b : Bool). b)) shown.flags_are
    ∙ any_flags (λ f. is_some (c f)) (range_with_len 0 n.frames)

block_some : (b : Bool) (s t : List ℤ) → b ≡ true → s ≡ t → Some s ≡ cond b (Some t) None
block_some true s t e f = ap Some f
block_some false s t e f = absurd cc

block_none : (b : Bool) (t : List ℤ) → b ≡ false → None ≡ cond b (Some t) None
block_none true t e = absurd cc
block_none false t e = refl

pub block_given : (n : Intake) (c : Held) (s : List ℤ) (h : List Bool)
    → list_any (λ (b : Bool). b) h ≡ true → IsShown n c s h → Some s ≡ block_by n c
block_given n c s h any shown =
    block_some (is_held n c) s (tick_samples n c) (sym (shown_held n c s h shown) ∙ any)
    shown.samples_are

pub block_missing : (n : Intake) (c : Held) (s : List ℤ) (h : List Bool)
    → list_any (λ (b : Bool). b) h ≡ false → IsShown n c s h → None ≡ block_by n c
block_missing n c s h any shown =
    block_none (is_held n c) (tick_samples n c) (sym (shown_held n c s h shown) ∙ any)

any_absent : (g : ℕ → Bool) (a m : ℕ) → ((k : ℕ) → a ≤ k → k < a + m → g k ≡ false)
    → list_any g (range_with_len a m) ≡ false
any_absent g a zero h = refl
any_absent g a (suc m) h =
    let here = h a (omega arith) (omega arith) in
    let rest = any_absent g (a + 1) m (λ k le lt. h k (omega (arith, le)) (omega (arith, lt))) in
    grind (arith, here, rest)

pub block_absent : (n : Intake) (c : Held) → IsAbsent n c → None ≡ block_by n c
block_absent n c none = block_none (is_held n c) (tick_samples n c)
    (any_absent (λ f. is_some (c f)) 0 n.frames
    (λ k le lt. ap is_some (none k (omega (arith, lt)))))
