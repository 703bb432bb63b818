-- The labels "1", "2", ..
use Rattle.std.proofs.Common.{◌≡◌, ℕ, ◌+◌, [], ◌∷◌, ◌++◌, length, zero-add}
use Rattle.std.specs.Fmt.{decimal}
use Rattle.std.proofs.lemmas.List.FromFn.{length-map-range_with_len, map-range_with_len_more}
use Rattle.capture_file.specs.Device.{numbered}

pub length-numbered : (n : ℕ) → length (numbered n) ≡ n
length-numbered n = length-map-range_with_len (λ k. decimal (k + 1)) 0 n

pub numbered_more : (n : ℕ) → numbered (n + 1) ≡ numbered n ++ decimal (n + 1) ∷ []
numbered_more n = map-range_with_len_more (λ k. decimal (k + 1)) 0 n n (zero-add n)
