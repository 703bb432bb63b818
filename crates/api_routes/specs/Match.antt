-- Which paths a route's pattern takes. (This project's own.)
use Rattle.std.specs.Prelude.{ℕ, Bool, true, false, not, ◌&&◌, ◌==◌, if◌then◌else◌, List, [], ◌∷◌}
use Rattle.std.specs.Prelude.{Option, Some, None, drop}
use Rattle.matchit.specs.Rows.{RowsOf}

-- the text from its first slash on
abbrev pub from_slash : List ℕ → List ℕ
from_slash [] = []
from_slash (b ∷ path) = if b == 47 then b ∷ path else from_slash path

-- whether nothing is left of the path
abbrev pub is_empty : List ℕ → Bool
is_empty [] = true
is_empty (b ∷ path) = false

-- the path begins with this byte
abbrev pub begins : ℕ → List ℕ → Bool
begins x [] = false
begins x (b ∷ path) = x == b

-- the path begins with a part that is not empty
abbrev pub has_part : List ℕ → Bool
has_part [] = false
has_part (b ∷ path) = not (b == 47)

-- the pattern takes the whole path: a parameter takes one part, and every other token is a byte
abbrev pub takes : List ℕ → List ℕ → Bool
takes [] path = is_empty path
takes (x ∷ pattern) path =
    if x == 256 then has_part path && takes pattern (from_slash path)
    else begins x path && takes pattern (drop 1 path)

-- the first row whose pattern takes the path
abbrev pub hit : {K : Type 0} → RowsOf K → List ℕ → Option K
hit [] path = None
hit ((pattern, key) ∷ rows) path = if takes pattern path then Some key else hit rows path
