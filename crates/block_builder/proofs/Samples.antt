-- Samples in a list.
use Rattle.std.proofs.Common.{◌≡◌, ℕ, ◌+◌, ◌-◌, ◌*◌, ◌<◌, List, to_z, of_z, length, take, drop}
use Rattle.std.proofs.Common.{get_or, set, ap, ◌∙◌, arith, ℤ}
use Rattle.std.proofs.lemmas.List.Edits.{fill_by_more}
use Rattle.std.specs.List.{slice_range}
use Rattle.std.specs.Int.{w32}
use Rattle.std.proofs.lemmas.Int.{ints, to_z-of_z}
use Rattle.rtp_pcm.specs.Pcm.{IsSample}

-- one more place is written
pub one_more : {X : Type 0} (f : ℕ → X) (xs : List X) (i : ℕ) (x d : X) → i < length xs → x ≡ f i
    → ((k : ℕ) → k < i → get_or xs k d ≡ f k) → (k : ℕ) → k < i + 1 → get_or (set xs i x) k d ≡ f k
one_more {X} f xs i x d lt e h k kl = ap (λ (y : X). get_or (set xs i y) k d) e
    ∙ fill_by_more f xs i d lt h k kl

-- a sample is a number of the machine's
pub stays : (z : ℤ) → IsSample z → to_z w32 (of_z w32 z) ≡ z
stays z h = to_z-of_z w32 z (omega (arith, ints, h.0, h.1))

-- the bytes of a sample
pub part_is : (payload : List ℕ) (k b w : ℕ) → b ≡ w
    → slice_range payload (k * b) (k * b + b) ≡ take w (drop (k * w) payload)
part_is payload k b w e =
    let n : k * b + b - k * b ≡ b = omega arith in
    ap (λ (j : ℕ). take j (drop (k * b) payload)) n
    ∙ ap (λ (j : ℕ). take j (drop (k * j) payload)) e
