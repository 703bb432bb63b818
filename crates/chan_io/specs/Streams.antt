-- What a read does to the bytes that a source has left, and a write to the bytes that a sink has
-- taken, where these are told. (This project's own.)
use Rattle.std.specs.Prelude.{◌≡◌, ℕ, ◌+◌, ◌<◌, ◌≤◌, List, ◌++◌, length, take, ⊤, Option, Some}
use Rattle.std.specs.Prelude.{None, Result, MatchResult}
use Rattle.std.specs.Io.KnownBytes.{Consumes, Appends, IsAtEnd}

-- A call tells its bytes after it just where it told them before it.
abbrev pub TellsAlike : Option (List ℕ) → Option (List ℕ) → Type 0
TellsAlike None None = ⊤
TellsAlike None (Some ys) = ⊥
TellsAlike (Some xs) None = ⊥
TellsAlike (Some xs) (Some ys) = ⊤

-- A read moves to the front of the buffer the bytes that it counts, and none only at the end of the
-- source or where the buffer has no room. A failed read leaves what is told unchanged.
abbrev pub Reads : {E : Type 0} → Option (List ℕ) → Option (List ℕ) → Result ℕ E → List ℕ → Type 0
Reads old new result buf =
    MatchResult result
    (λ n. (n ≤ length buf) × TellsAlike old new × Consumes old new (take n buf)
    × (n ≡ 0 → 0 < length buf → IsAtEnd new))
    (λ _. new ≡ old)

-- A write takes the first bytes of the piece, as many as it counts, and at least one where there is
-- one. A failed write leaves what is told unchanged.
abbrev pub Writes : {E : Type 0} → Option (List ℕ) → Option (List ℕ) → Result ℕ E → List ℕ → Type 0
Writes old new result piece =
    MatchResult result
    (λ n. (n ≤ length piece) × (0 < length piece → 0 < n) × TellsAlike old new
    × Appends old new (take n piece))
    (λ _. new ≡ old)

-- A source was read to its end: it gave these bytes, at most `limit` of them, and has none left.
pub record WholeRead (old new : Option (List ℕ)) (limit : ℕ) (bytes : List ℕ) : Type 0 where
  pub alike : TellsAlike old new
  pub read : Consumes old new bytes
  pub ended : IsAtEnd new
  pub short : length bytes ≤ limit

-- A source has more bytes than the limit: it gave one more.
pub record LongRead (old new : Option (List ℕ)) (limit : ℕ) : Type 0 where
  pub bytes : List ℕ
  pub alike : TellsAlike old new
  pub read : Consumes old new bytes
  pub long : length bytes ≡ limit + 1

-- A source gave some bytes, and no more than `most`.
pub record BoundedRead (old new : Option (List ℕ)) (most : ℕ) : Type 0 where
  pub bytes : List ℕ
  pub alike : TellsAlike old new
  pub read : Consumes old new bytes
  pub bounded : length bytes ≤ most

-- A sink took the front of a text.
pub record TakesPrefix (old new : Option (List ℕ)) (text : List ℕ) : Type 0 where
  pub front : List ℕ
  pub rest : List ℕ
  pub parts : text ≡ front ++ rest
  pub alike : TellsAlike old new
  pub taken : Appends old new front

-- A text went to a sink: it took a front of it, and the rest still waits.
pub record HasSent (old new : Option (List ℕ)) (waiting text : List ℕ) : Type 0 where
  pub sent : List ℕ
  pub alike : TellsAlike old new
  pub took : Appends old new sent
  pub parts : text ≡ sent ++ waiting

-- After whatever text was given out before, this one more was: the sink took a front of both, and
-- the rest waits.
abbrev pub SendsOn : Option (List ℕ) → List ℕ → Option (List ℕ) → List ℕ → List ℕ → Type 0
SendsOn old old_waiting new new_waiting more =
    (start : Option (List ℕ)) (text : List ℕ) → HasSent start old old_waiting text
    → HasSent start new new_waiting (text ++ more)

-- Of whatever text was given out before, and this after it, the sink took a front.
abbrev pub TakesOn : Option (List ℕ) → List ℕ → Option (List ℕ) → List ℕ → Type 0
TakesOn old old_waiting new more =
    (start : Option (List ℕ)) (text : List ℕ) → HasSent start old old_waiting text
    → TakesPrefix start new (text ++ more)
