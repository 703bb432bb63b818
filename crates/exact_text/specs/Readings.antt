-- Readings: what stands at the front of bytes, as a value and the bytes after it, or none.
-- (This project's own. Numbers have their highest byte first, as in RFC 3550, section 4.)
use Rattle.std.specs.Prelude.{◌≡◌, ℕ, zero, suc, List, [], ◌∷◌, length, take, drop, Option, Some}
use Rattle.std.specs.Prelude.{None, option_and_then, Result, Ok, Err, nat_lt, ◌==◌, if◌then◌else◌}
use Rattle.std.specs.List.{starts_with}
use Rattle.byteorder.specs.Endian.{big_number}
use Rattle.exact_text.specs.declared.misread.Misread.{Misread}
use Rattle.exact_text.specs.declared.misread.Misread.TheVariants.{NoReading, NoMemory}

-- One reading and then another, which a `do` expression joins.
infixl 10 ◌>>=◌
abbrev pub ◌>>=◌ : {A B : Type 0} → Option A → (A → Option B) → Option B
o >>= f = option_and_then f o

-- A reader failed rightly: there is no reading, or memory ran out.
abbrev pub Fails : {Y : Type 0} → Misread → Option Y → Type 0
Fails NoReading reading = reading ≡ None
Fails NoMemory reading = Unit {0}

-- What a reader returned, seen by view, is what the reading gives, unless memory ran out.
abbrev pub Gives : {X Y : Type 0} → (X → Y) → Result X Misread → Option Y → Type 0
Gives view (Ok x) reading = reading ≡ Some (view x)
Gives view (Err e) reading = Fails e reading

-- One byte.
abbrev pub byte_at : List ℕ → Option (ℕ × List ℕ)
byte_at [] = None
byte_at (b ∷ rest) = Some (b, rest)

-- A number of k bytes, the highest first.
abbrev pub number_at : ℕ → List ℕ → Option (ℕ × List ℕ)
number_at k bytes = if nat_lt (length bytes) k then None
    else Some (big_number k bytes, drop k bytes)

-- A text of n bytes.
abbrev pub text_at : ℕ → List ℕ → Option (List ℕ × List ℕ)
text_at n bytes = if nat_lt (length bytes) n then None else Some (take n bytes, drop n bytes)

-- One given byte, and what is after it.
abbrev pub expected_at : ℕ → List ℕ → Option (List ℕ)
expected_at value bytes = byte_at bytes >>= λ b. (if b.0 == value then Some b.1 else None)

-- Given bytes, and what is after them.
abbrev pub literal_at : List ℕ → List ℕ → Option (List ℕ)
literal_at front bytes = if starts_with ◌==◌ bytes front then Some (drop (length front) bytes)
    else None

-- A given number of values, one after the other.
abbrev pub many_at : {A : Type 0} → (List ℕ → Option (A × List ℕ)) → ℕ → List ℕ
    → Option (List A × List ℕ)
many_at read zero bytes = Some ([], bytes)
many_at read (suc n) bytes = do
  first ← read bytes
  others ← many_at read n first.1
  Some (first.0 ∷ others.0, others.1)

-- The tag and the body of a record: a byte, the body's length in 4 bytes, and the body.
unfoldable pub record_at : List ℕ → Option ((ℕ × List ℕ) × List ℕ)
record_at bytes = do
  tag ← byte_at bytes
  len ← number_at 4 tag.1
  body ← text_at len.0 len.1
  Some ((tag.0, body.0), body.1)

-- That nothing is left.
abbrev pub nothing_at : List ℕ → Option (Unit {0})
nothing_at rest = if length rest == 0 then Some tt else None

-- A whole body: what is read, with nothing left after it.
abbrev pub whole_of : {A : Type 0} → (List ℕ → Option (A × List ℕ)) → List ℕ → Option A
whole_of read body = do
  value ← read body
  end ← nothing_at value.1
  Some value.0
