-- The search for the end of the first line, from a place on. (This project's own.)
use Rattle.std.specs.Prelude.{◌≡◌, ℕ, ◌≤◌, Bool, false, ◌||◌, ◌&&◌}
use Rattle.std.specs.Prelude.{◌==◌, not, List, [], ◌∷◌, length, take}
use Rattle.httparse.specs.Pieces.{is_newline}

-- a line that has begun or not ends in the bytes
abbrev pub has_line_from : Bool → List ℕ → Bool
has_line_from begun [] = false
has_line_from begun (b ∷ bytes) =
    (begun && b == 10) || has_line_from (begun || not (is_newline b)) bytes

-- the line has begun after the bytes
abbrev pub is_begun_behind : Bool → List ℕ → Bool
is_begun_behind begun [] = begun
is_begun_behind begun (b ∷ bytes) = is_begun_behind (begun || not (is_newline b)) bytes

-- a front of a given length has no whole line
pub record HasNoLine (bytes : List ℕ) (seen : ℕ) (begun : Bool) : Type 0 where
  pub within : seen ≤ length bytes
  pub none : has_line_from false (take seen bytes) ≡ false
  pub begun_is : begun ≡ is_begun_behind false (take seen bytes)
