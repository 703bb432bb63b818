-- Places of equal width in a text of bytes. (This project's own.)
use Rattle.std.specs.Prelude.{ℕ, ◌*◌, List, take, drop}

-- the part of a given number of bytes at a place
abbrev pub slot : ℕ → ℕ → List ℕ → List ℕ
slot width place bytes = take width (drop (place * width) bytes)
