-- Fields of JSON objects that are read. (RFC 8259.)
use Rattle.std.specs.Prelude.{ℕ, zero, suc, List, [], ◌∷◌, ◌++◌, Bool, true, Option, Some, None}
use Rattle.std.specs.Prelude.{option_and_then, is_some, nat_le, if◌then◌else◌}
use Rattle.std.specs.Option.{option_map_or, option_to_list}
use Rattle.serde_json.specs.Data.{Data, Items, no_items, item}
use Rattle.serde_json.specs.Find.{get, as_null, as_number, as_u64, as_str, as_object, as_array}

infixl 10 ◌>>=◌
-- one reading and then another, which a do block joins
abbrev pub ◌>>=◌ : {A B : Type 0} → Option A → (A → Option B) → Option B
o >>= f = option_and_then f o

-- a number that is not above the greatest of its field
abbrev pub at_most : ℕ → ℕ → Option ℕ
at_most most n = if nat_le n most then Some n else None

-- a whole number up to the greatest of its field
abbrev pub whole_in : ℕ → Data → Option ℕ
whole_in most d = option_and_then (at_most most) (option_and_then as_u64 (as_number d))

-- the value is an object
abbrev pub object_in : Data → Option Data
object_in d = if is_some (as_object d) then Some d else None

-- the value is null
abbrev pub is_null : Data → Bool
is_null d = is_some (as_null d)

-- the text under a key
abbrev pub text_at : List ℕ → Data → Option (List ℕ)
text_at key d = option_and_then as_str (get key d)

-- the whole number under a key, up to the greatest of its field
abbrev pub whole_at : ℕ → List ℕ → Data → Option ℕ
whole_at most key d = option_and_then (whole_in most) (get key d)

-- the list under a key
abbrev pub list_at : List ℕ → Data → Option Items
list_at key d = option_and_then as_array (get key d)

-- the object under a key
abbrev pub object_at : List ℕ → Data → Option Data
object_at key d = option_and_then object_in (get key d)

-- null stands under a key, or nothing does
abbrev pub is_null_at : List ℕ → Data → Bool
is_null_at key d = option_map_or is_null (get key d) true

-- what a reading gives of the value that may stand under a key: where none does, this
abbrev pub if_there : {A : Type 0} → A → (Data → Option A) → Option Data → Option A
if_there default reading None = Some default
if_there default reading (Some d) = reading d

-- what a reading gives of each value of a list
abbrev pub each_in : {A : Type 0} → (Data → Option A) → Items → Option (List A)
each_in reading no_items = Some []
each_in reading (item d ds) = do
  first ← reading d
  others ← each_in reading ds
  Some (first ∷ others)

-- what is found at the numbers below one, in their order
unfoldable pub found_below : {A : Type 0} → (ℕ → Option A) → ℕ → List A
found_below found zero = []
found_below found (suc n) = found_below found n ++ option_to_list (found n)
