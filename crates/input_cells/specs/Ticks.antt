-- A set of places, 64 to a word. (This project's own.)
use Rattle.std.specs.Prelude.{ℕ, ◌/◌, ◌%◌, List, slice_index}
use Rattle.std.specs.Int.{bit_at}

-- 1 where the place is in the set, and 0 where it is not
abbrev pub bit_of : List ℕ → ℕ → ℕ
bit_of words at = bit_at (slice_index words (at / 64)) (at % 64)
