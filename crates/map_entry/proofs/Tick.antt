-- Ticks of claims: laws.
use Rattle.std.proofs.Common.{◌≡◌, ℕ, ◌+◌, ◌*◌, ◌/◌, ◌<◌, ◌≤◌, arith}
use Rattle.std.specs.Int.{div_ceil}
use Rattle.std.proofs.Math.Nat.{div-lt_iff_lt-mul}
use Rattle.std.proofs.lemmas.Grind.{div_ceil_times}
use Rattle.list_laws.proofs.Parts.{part_most}
use Rattle.map_entry.specs.Tick.{claim_tick, first_tick}

-- a claim drawn before that many are made lies in a tick below the first one not begun
pub claim_below_first : (n a b : ℕ) → 0 < n → a + 1 ≤ b → a / n < div_ceil b n
claim_below_first n a b some drawn =
    let over : b ≤ div_ceil b n * n = (div_ceil_times b n some).0 in
    (div-lt_iff_lt-mul {x = a} {y = div_ceil b n} some).1 (omega (arith, over))

pub claim_before_first_tick : (base n claim claims : ℕ) → 0 < n → claim < claims → claim_tick base n claim < first_tick base n claims
claim_before_first_tick base n claim claims some drawn = omega (arith, claim_below_first n claim claims some (omega arith))

-- the first tick not begun never falls
pub first_tick-grows : (base n a b : ℕ) → 0 < n → a ≤ b → first_tick base n a ≤ first_tick base n b
first_tick-grows base n a b some more =
    let low : div_ceil a n * n < a + n = (div_ceil_times a n some).1 in
    let high : b ≤ div_ceil b n * n = (div_ceil_times b n some).0 in
    omega (arith, part_most (div_ceil a n) (div_ceil b n) n (omega (arith, low, high, more)))

-- nothing claimed, nothing begun
pub first_tick-none : (base n : ℕ) → 0 < n → first_tick base n 0 ≡ base
first_tick-none base n some =
    let low : div_ceil 0 n * n < 0 + n = (div_ceil_times 0 n some).1 in
    omega (arith, part_most (div_ceil 0 n) 0 n (omega (arith, low)))
