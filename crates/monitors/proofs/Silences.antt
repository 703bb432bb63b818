-- Runs of silence, packet by packet.
use Rattle.std.proofs.Common.{◌≡◌, ℕ, zero, suc, ◌+◌, ◌<◌, ◌≤◌, Bool, true, false, List, [], ◌∷◌, ◌++◌}
use Rattle.std.proofs.Common.{min, max, replicate, refl, sym, ap, ◌∙◌, arith, inl, inr}
use Rattle.std.specs.List.{prefix_len}
use Rattle.std.proofs.lemmas.Bool.{cases_lt}
use Rattle.monitors.specs.Meters.{longest_run}

-- a run in front of other flags
prefix_len-run : (n : ℕ) (flags : List Bool)
    → prefix_len (λ f. f) (replicate n true ++ flags) ≡ n + prefix_len (λ f. f) flags
prefix_len-run zero flags = omega arith
prefix_len-run (suc n) flags =
    let more = prefix_len-run n flags in
    rw more (omega arith)

-- is not longer than the longest
run_within : (n : ℕ) (flags : List Bool) → n ≤ longest_run (replicate n true ++ flags)
run_within zero flags = omega arith
run_within (suc n) flags = let front = prefix_len-run (suc n) flags in omega (arith, front)

-- a set flag after a run makes it longer
run_more : (n : ℕ) (flags : List Bool) → replicate n true ++ true ∷ flags ≡ replicate (n + 1) true ++ flags
run_more zero flags = refl
run_more (suc n) flags =
    let more : suc n + 1 ≡ suc (n + 1) = omega arith in
    rw more (ap (λ (fs : List Bool). true ∷ fs) (run_more n flags))

-- another flag ends it
run_ends : (n : ℕ) (flags : List Bool)
    → longest_run (replicate n true ++ false ∷ flags) ≡ max n (longest_run flags)
run_ends zero flags = omega arith
run_ends (suc n) flags =
    let front = prefix_len-run (suc n) (false ∷ flags) in
    let rest = run_ends n flags in
    omega (arith, front, rest)

-- a run alone
pub run_alone : (n : ℕ) → longest_run (replicate n true ++ []) ≡ n
run_alone zero = refl
run_alone (suc n) =
    let front = prefix_len-run (suc n) [] in
    let rest = run_alone n in
    omega (arith, front, rest)

-- one silent packet more, where runs count up to a limit
pub silence_goes_on : (limit longest n next : ℕ) (flag : Bool) (flags : List Bool) → n ≤ limit
    → next ≡ min (n + 1) limit → flag ≡ true
    → min limit (max longest (longest_run (replicate next true ++ flags)))
    ≡ min limit (max longest (longest_run (replicate n true ++ flag ∷ flags)))
silence_goes_on limit longest n next flag flags within next_is set =
    let more = run_more n flags in
    rw set (elim (cases_lt n limit) [
      | inl below ↦
          let fits : next ≡ n + 1 = omega (arith, next_is, below) in
          rw (fits, more) refl
      | inr full ↦
          let stays : next ≡ n = omega (arith, next_is, full, within) in
          let long = run_within n flags in
          let longer = run_within (n + 1) flags in
          rw (stays, more) (omega (arith, full, within, long, longer))
    ])

-- a packet that is not silent
pub silence_ends : (longest n next : ℕ) (flag : Bool) (flags : List Bool) → next ≡ max longest n → flag ≡ false
    → max next (longest_run flags) ≡ max longest (longest_run (replicate n true ++ flag ∷ flags))
silence_ends longest n next flag flags next_is unset =
    let ends = run_ends n flags in
    rw (unset, ends) (omega (arith, next_is))
