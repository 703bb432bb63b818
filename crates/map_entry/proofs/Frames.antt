-- Frames of ticks: laws.
use Rattle.std.proofs.Common.{◌≡◌, ℕ, ◌+◌, ◌*◌, ◌/◌, ◌%◌, ◌^◌, ◌<◌, ◌≤◌, inl, inr, ap, arith}
use Rattle.std.specs.Prelude.{nat_lt}
use Rattle.std.proofs.Math.Nat.{mod-lt}
use Rattle.std.proofs.lemmas.Bool.{cases_lt, lt-ltb, ltb-true, ltb_from_iff}
use Rattle.std.proofs.lemmas.Nat.{div-add-mod'}
use Rattle.list_laws.proofs.Parts.{part_within}
use Rattle.map_entry.specs.Tick.{claim_tick, first_tick, frame_key, tick_in, frame_in, position, position_key}
use Rattle.map_entry.proofs.Tick.{claim_before_first_tick, first_tick-grows}

-- a frame of a later tick is later
pub later_tick : (t u f g : ℕ) → t < u → f < 2 ^ 16 → frame_key t f < frame_key u g
later_tick t u f g lt few = omega (arith, lt, few)

-- a frame is that of its tick and number
pub key_again : (key : ℕ) → frame_key (tick_in key) (frame_in key) ≡ key
key_again key = omega arith

-- a frame that is not before the beginning of a tick lies in it or in a later one
pub tick_from : (t u f : ℕ) → frame_key t 0 ≤ frame_key u f → f < 2 ^ 16 → t ≤ u
tick_from t u f le few = omega (arith, le, few)

-- a claim below the claims made is for frames below those of the first tick not begun
pub claim_before_first : (base n claim claims f : ℕ) → 0 < n → claim < claims → f < 2 ^ 16
    → frame_key (claim_tick base n claim) f < frame_key (first_tick base n claims) 0
claim_before_first base n claim claims f some drawn few =
    later_tick (claim_tick base n claim) (first_tick base n claims) f 0 (claim_before_first_tick base n claim claims some drawn) few

-- ---- positions

key_less : (frames p t o : ℕ) → 0 < frames → frames ≤ 2 ^ 16 → o < frames → p < position frames t o → position_key frames p < frame_key t o
key_less frames p t o some few within lt =
    let split : p / frames * frames + p % frames ≡ p = div-add-mod' p frames in
    let rest : p % frames < frames = mod-lt p some in
    elim (cases_lt (p / frames) t) [
      | inl before ↦ later_tick (p / frames) t (p % frames) o before (omega (arith, rest, few))
      | inr from ↦ elim (cases_lt t (p / frames)) [
        | inl behind ↦ absurd (omega (arith, part_within (p / frames) t frames behind, split, lt, within))
        | inr to ↦
            let same : t ≡ p / frames = omega (arith, from, to) in
            let parts : t * frames ≡ p / frames * frames = ap (λ (n : ℕ). n * frames) same in
            omega (arith, same, parts, split, lt)
      ]
    ]

key_not_less : (frames p t o : ℕ) → 0 < frames → frames ≤ 2 ^ 16 → o < frames → position_key frames p < frame_key t o → p < position frames t o
key_not_less frames p t o some few within lt =
    let split : p / frames * frames + p % frames ≡ p = div-add-mod' p frames in
    let rest : p % frames < frames = mod-lt p some in
    elim (cases_lt (p / frames) t) [
      | inl before ↦ omega (arith, part_within t (p / frames) frames before, split, rest)
      | inr from ↦ elim (cases_lt t (p / frames)) [
        | inl behind ↦ absurd (omega (arith, lt, behind, within, few))
        | inr to ↦
            let same : t ≡ p / frames = omega (arith, from, to) in
            let parts : t * frames ≡ p / frames * frames = ap (λ (n : ℕ). n * frames) same in
            omega (arith, same, parts, split, lt)
      ]
    ]

-- positions are ordered as their frames are
pub same_order : (frames p t o : ℕ) → 0 < frames → frames ≤ 2 ^ 16 → o < frames
    → nat_lt p (position frames t o) ≡ nat_lt (position_key frames p) (frame_key t o)
same_order frames p t o some few within =
    ltb_from_iff (
      (λ is. key_less frames p t o some few within (ltb-true p (position frames t o) is)),
      (λ lt. lt-ltb p (position frames t o) (key_not_less frames p t o some few within lt)),
    )
