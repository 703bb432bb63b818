-- Spellings: the bytes of values. (This project's own.)
use Rattle.std.specs.Prelude.{◌≡◌, ℕ, List, ◌∷◌, ◌++◌, length}
use Rattle.byteorder.specs.Endian.{big_bytes}

-- A record: its tag, the length of its body in 4 bytes with the highest first, and the body.
abbrev pub record_text : ℕ → List ℕ → List ℕ
record_text tag body = tag ∷ (big_bytes 4 (length body) ++ body)

-- The new text is the old one with more after it.
abbrev pub Grows : List ℕ → List ℕ → Type 0
Grows old new = (more : List ℕ) × (new ≡ old ++ more)
