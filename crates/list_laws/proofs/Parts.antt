-- Parts of equal length, one after the other.
use Rattle.std.proofs.Common.{◌<◌, ◌≤◌, ℕ, ◌+◌, ◌*◌, inl, inr, arith}
use Rattle.std.proofs.lemmas.Bool.{cases_lt}
use Rattle.std.proofs.Math.Nat.{add-mul, mul-le-mul_right}

-- a part ends where a later one begins, or before
pub part_within : (n k long : ℕ) → k < n → k * long + long ≤ n * long
part_within n k long below =
    let more : (k + 1) * long ≤ n * long = mul-le-mul_right long (omega arith) in
    omega (arith, add-mul k 1 long, more)

-- parts that end before the next part does are no more
pub part_most : (n k long : ℕ) → n * long < k * long + long → n ≤ k
part_most n k long below = elim (cases_lt k n) [
  | inl more ↦ absurd (omega (arith, part_within n k long more, below))
  | inr most ↦ most
]
