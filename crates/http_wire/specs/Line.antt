-- How far a head has come in the bytes: whole lines, and a part of a field line. (This project's
-- own.)
use Rattle.std.specs.Prelude.{◌≡◌, ◌⊎◌, ℕ, ◌==◌, false, List, [], ◌∷◌, ◌++◌}
use Rattle.std.specs.List.{flat_map, list_any}
use Rattle.httparse.specs.Grammar.{is_value_byte, AllPass, IsToken, print_end, print_blank}
use Rattle.httparse.specs.Grammar.{print_version, print_field, RequestHead, IsRequestHead}
use Rattle.http_wire.specs.declared.line.Part.{Part}
use Rattle.http_wire.specs.declared.line.Part.TheVariants.{Start, Name, Value, Return}

-- the bytes of a head up to a further field, or up to the empty line that ends it
unfoldable pub lines_text : RequestHead → List ℕ
lines_text h =
    print_blank h.blank
    ++ (h.method ++ 32 ∷
    (h.target ++ 32 ∷
    (print_version h.minor ++ (print_end h.line_end ++ flat_map print_field h.fields))))

-- these bytes are that part of a field line
abbrev pub IsPart : Part → List ℕ → Type 0
IsPart Start line = line ≡ []
IsPart Name line = IsToken line
IsPart Value line = (name : List ℕ) × (raw : List ℕ) × IsToken name × AllPass is_value_byte raw
    × (line ≡ name ++ 58 ∷ raw)
IsPart Return line = (name : List ℕ) × (raw : List ℕ) × IsToken name × AllPass is_value_byte raw
    × (line ≡ name ++ 58 ∷ (raw ++ 13 ∷ []))

-- the bytes are whole lines of a head, and a part of one more
pub record HasPart (bytes : List ℕ) (part : Part) : Type 0 where
  pub head : RequestHead
  pub line : List ℕ
  pub valid : IsRequestHead head
  pub bytes_are : bytes ≡ lines_text head ++ line
  pub part_is : IsPart part line

-- a part to which bytes come is another part
abbrev pub Extends : Part → List ℕ → Part → Type 0
Extends part bytes later = (line : List ℕ) → IsPart part line → IsPart later (line ++ bytes)

-- the bytes up to the last line feed
pub record AreWholeLines (bytes lines : List ℕ) : Type 0 where
  pub rest : List ℕ
  pub bytes_are : bytes ≡ lines ++ rest
  pub none : list_any (λ b. b == 10) rest ≡ false
  pub ends : (lines ≡ []) ⊎ ((front : List ℕ) × (lines ≡ front ++ 10 ∷ []))
