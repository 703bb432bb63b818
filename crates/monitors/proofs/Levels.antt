-- The level of a packet, sample by sample.
use Rattle.std.proofs.Common.{◌≡◌, ℕ, ◌+◌, ◌<◌, List, [], ◌∷◌, ◌++◌, map, max, take, length, get_or, ℤ}
use Rattle.std.proofs.Common.{refl, ap, ◌∙◌, arith}
use Rattle.std.specs.Prelude.{unsigned_abs}
use Rattle.std.proofs.lemmas.List.{take_more, map-append}
use Rattle.monitors.specs.Packets.{greatest}

-- the greatest of two lists of numbers
greatest-append : (xs ys : List ℕ) → greatest (xs ++ ys) ≡ max (greatest xs) (greatest ys)
greatest-append [] ys = omega arith
greatest-append (x ∷ xs) ys = let rest = greatest-append xs ys in omega (arith, rest)

last : (a b : ℕ) → max a (max b 0) ≡ max a b
last a b = omega arith

-- one sample more
pub level_more : (samples : List ℤ) (i : ℕ) (d : ℤ) → i < length samples
    → greatest (map unsigned_abs (take (i + 1) samples))
    ≡ max (greatest (map unsigned_abs (take i samples))) (unsigned_abs (get_or samples i d))
level_more samples i d lt =
    ap (λ (zs : List ℤ). greatest (map unsigned_abs zs)) (take_more samples i d lt)
    ∙ ap greatest (map-append unsigned_abs (take i samples) (get_or samples i d ∷ []))
    ∙ greatest-append (map unsigned_abs (take i samples)) (unsigned_abs (get_or samples i d) ∷ [])
    ∙ last (greatest (map unsigned_abs (take i samples))) (unsigned_abs (get_or samples i d))
