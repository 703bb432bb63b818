-- The greatest sample, packet by packet.
use Rattle.std.proofs.Common.{◌≡◌, ℕ, ◌<◌, ◌≤◌, true, false, List, [], ◌∷◌, max}
use Rattle.std.proofs.Common.{refl, sym, ap, ◌∙◌, arith, inl, inr}
use Rattle.std.specs.Prelude.{◌==◌}
use Rattle.std.proofs.lemmas.Bool.{cases_lt, eq-eqb, ne_eqb}
use Rattle.monitors.specs.declared.meters.Mark.{Mark}
use Rattle.monitors.specs.Meters.{first_with, highest_of, mark_with, peak_of}

-- a mark of these parts
abbrev mark : ℕ → ℕ → Mark
mark level claim = record { level = level; claim = claim }

-- one that is not louder than the mark before it is not the first of the highest
skips : (level : ℕ) (h m : Mark) (ms : List Mark) → m.level ≤ h.level → h.level ≤ level
    → first_with level (h ∷ m ∷ ms) ≡ first_with level (h ∷ ms)
skips level h m ms low within = elim (cases_lt h.level level) [
  | inl below ↦
      let no_h : (h.level == level) ≡ false = ne_eqb h.level level (λ e. absurd (omega (arith, below, e))) in
      let no_m : (m.level == level) ≡ false = ne_eqb m.level level (λ e. absurd (omega (arith, below, low, e))) in
      rw (no_h, no_m) refl
  | inr top ↦
      let is : (h.level == level) ≡ true = eq-eqb h.level level (omega (arith, top, within)) in
      rw is refl
]

-- one that is below the mark after it is not among the highest
falls : (level : ℕ) (h m : Mark) (ms : List Mark) → h.level < level
    → first_with level (h ∷ m ∷ ms) ≡ first_with level (m ∷ ms)
falls level h m ms below =
    let no_h : (h.level == level) ≡ false = ne_eqb h.level level (λ e. absurd (omega (arith, below, e))) in
    rw no_h refl

-- the peak of marks of which the second is not louder than the first
pub peak_of-keeps : (h m : Mark) (ms : List Mark) → m.level ≤ h.level → peak_of (h ∷ ms) ≡ peak_of (h ∷ m ∷ ms)
peak_of-keeps h m ms low =
    let rest : ℕ = highest_of ms in
    let same : max h.level (max m.level rest) ≡ max h.level rest = omega (arith, low) in
    let within : h.level ≤ max h.level rest = omega arith in
    sym (ap (λ (level : ℕ). mark_with level (h ∷ m ∷ ms)) same
    ∙ ap (mark (max h.level rest)) (skips (max h.level rest) h m ms low within))

-- the peak of marks of which the second is louder than the first
pub peak_of-takes : (h m : Mark) (ms : List Mark) → h.level < m.level → peak_of (m ∷ ms) ≡ peak_of (h ∷ m ∷ ms)
peak_of-takes h m ms high =
    let rest : ℕ = highest_of ms in
    let same : max h.level (max m.level rest) ≡ max m.level rest = omega (arith, high) in
    let below : h.level < max m.level rest = omega (arith, high) in
    sym (ap (λ (level : ℕ). mark_with level (h ∷ m ∷ ms)) same
    ∙ ap (mark (max m.level rest)) (falls (max m.level rest) h m ms below))

-- the peak of one mark
pub peak_of-one : (m : Mark) → peak_of (m ∷ []) ≡ m
peak_of-one m =
    let top : max m.level 0 ≡ m.level = omega arith in
    let is : (m.level == m.level) ≡ true = eq-eqb m.level m.level refl in
    ap (λ (level : ℕ). mark_with level (m ∷ [])) top ∙ rw is refl
