-- Pieces on their way to a sink, one after the other.
use Rattle.std.proofs.Common.{◌≡◌, ℕ, suc, ◌+◌, ◌-◌, ◌<◌, List, ◌++◌, Option, ap, subst, zero-add}
use Rattle.std.proofs.Common.{◌∙◌, append_assoc, arith, sym}
use Rattle.std.specs.List.{flat_map, range_with_len}
use Rattle.std.proofs.lemmas.Grind.{flat_map-append}
use Rattle.std.proofs.lemmas.List.Concat.{flat_map-cons}
use Rattle.chan_io.specs.Streams.{TakesOn}
use Rattle.chan_io.proofs.Sending.{takes_longer}
use Rattle.list_laws.proofs.Ranges.{range_parts}

-- pieces one after the other: those before a number, its own, and the others
pub all_pieces : (f : ℕ → List ℕ) (n k : ℕ) → k < n
    → (others : List ℕ) × (flat_map f (range_with_len 0 n)
    ≡ flat_map f (range_with_len 0 k) ++ (f k ++ others))
all_pieces f n k lt =
    let m = n - k - 1 in
    let count : n ≡ k + suc m = omega (arith, lt) in
    let before = flat_map f (range_with_len 0 k) in
    let others = flat_map f (range_with_len (0 + k + 1) m) in (
      others,
      ap (λ (x : ℕ). flat_map f (range_with_len 0 x)) count
          ∙ ap (flat_map f) (range_parts 0 k (suc m))
          ∙ flat_map-append f (range_with_len 0 k) (range_with_len (0 + k) (suc m))
          ∙ ap (λ (z : List ℕ). before ++ z) (flat_map-cons f (0 + k) (range_with_len (0 + k + 1) m)
          ∙ ap (λ (i : ℕ). f i ++ others) (zero-add k)),
    )

-- a sink that took a front of some pieces and of the front of the next one took a front of them all
pub takes_all : (a c : Option (List ℕ)) (wa : List ℕ) (f : ℕ → List ℕ) (n k : ℕ) (x y : List ℕ)
    → k < n → f k ≡ x ++ y → TakesOn a wa c (flat_map f (range_with_len 0 k) ++ x)
    → TakesOn a wa c (flat_map f (range_with_len 0 n))
takes_all a c wa f n k x y lt parts takes =
    let all = all_pieces f n k lt in
    let before = flat_map f (range_with_len 0 k) in
    let is : (before ++ x) ++ (y ++ all.0) ≡ flat_map f (range_with_len 0 n) =
    append_assoc before x (y ++ all.0)
    ∙ ap (λ (z : List ℕ). before ++ z) (sym (append_assoc x y all.0)
    ∙ ap (λ (z : List ℕ). z ++ all.0) (sym parts))
    ∙ sym all.1 in
    subst (TakesOn a wa c) is (takes_longer a c wa (before ++ x) (y ++ all.0) takes)
