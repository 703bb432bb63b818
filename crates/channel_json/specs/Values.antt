-- JSON values: what a text says, and of what the values are made that are written. (RFC 8259.)
use Rattle.std.specs.Prelude.{ℕ, List, [], ◌∷◌, Option, None, if◌then◌else◌}
use Rattle.std.specs.Str.{is_utf8}
use Rattle.serde_json.specs.Data.{Data, string, array, object, Members, no_members, put}
use Rattle.serde_json.specs.Read.{read}
use Rattle.serde_json.specs.View.{items_of}

-- The value that a text says, or none: the text is UTF-8 and JSON, with arrays and objects nested
-- at most 127 deep. Of a doubled key the last value stays. A number with a point, an exponent, or
-- the value -0, and one past 64 bits, is no whole number.
abbrev pub document : List ℕ → Option Data
document text = if is_utf8 text then read text else None

-- a text as it is written: the empty text where it is not UTF-8
abbrev pub shown_text : List ℕ → List ℕ
shown_text text = if is_utf8 text then text else []

-- the value of a text as it is written
abbrev pub text_data : List ℕ → Data
text_data text = string (shown_text text)

-- the list of these values
abbrev pub array_of : List Data → Data
array_of values = array (items_of values)

-- the members with further ones put among them, which stay in the order of their keys' bytes
abbrev pub with_members : List (List ℕ × Data) → Members → Members
with_members [] members = members
with_members (m ∷ more) members = with_members more (put m.0 m.1 members)

-- the object of these members
abbrev pub object_of : List (List ℕ × Data) → Data
object_of members = object (with_members members no_members)
