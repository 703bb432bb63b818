-- Forms: how values of a type stand in bytes. (This project's own.)
use Rattle.std.specs.Prelude.{◌≡◌, ℕ, Bool, ◌<◌, ◌^◌, List, [], ◌∷◌, ◌++◌, length, Option, Some}
use Rattle.std.specs.Prelude.{None, ◌==◌, if◌then◌else◌, ◌⊎◌}
use Rattle.std.specs.List.{flat_map, AllByRecursion}
use Rattle.byteorder.specs.Endian.{big_bytes}
use Rattle.exact_text.specs.Readings.{◌>>=◌, byte_at, number_at, text_at, many_at, record_at}
use Rattle.exact_text.specs.Readings.{whole_of}
use Rattle.exact_text.specs.Spellings.{record_text}

-- How the values that fit are spelled, and how the value at the front of bytes is read: it and the
-- bytes after it, or none.
pub record Form (A : Type 0) : Type 1 where
  pub text : A → List ℕ
  pub read : List ℕ → Option (A × List ℕ)
  pub Fits : A → Type 0

-- ---- fields

-- one byte
abbrev pub byte : Form ℕ
byte = record { text = λ b. b ∷ []; read = byte_at; Fits = λ b. b < 256 }

-- a number in k bytes, the highest first (unfoldable, so that no goal computes it into single
-- bytes)
unfoldable pub number_text : ℕ → ℕ → List ℕ
number_text k n = big_bytes k n

-- a number of k bytes, the highest first
abbrev pub number : ℕ → Form ℕ
number k = record { text = number_text k; read = number_at k; Fits = λ n. n < 256 ^ k }

-- a given number of bytes
abbrev pub text_of : ℕ → Form (List ℕ)
text_of n = record { text = λ text. text; read = text_at n; Fits = λ text. length text ≡ n }

-- a given number of values, one after the other
abbrev pub many_of : {A : Type 0} → ℕ → Form A → Form (List A)
many_of n f = record {
  text = flat_map f.text;
  read = many_at f.read n;
  Fits = λ xs. (length xs ≡ n) × AllByRecursion f.Fits xs;
}

-- all bytes that are left
abbrev pub all_left : Form (List ℕ)
all_left = record { text = λ text. text; read = λ bytes. Some (bytes, []); Fits = λ text. Unit {0} }

-- ---- one after the other

-- a value, and then another in a form that the first one tells
abbrev pub led : {A B : Type 0} → Form A → (A → Form B) → Form (A × B)
led f g = record {
  text = λ x. f.text x.0 ++ (g x.0).text x.1;
  read = λ bytes. f.read bytes >>= λ a. (g a.0).read a.1 >>= λ b. Some ((a.0, b.0), b.1);
  Fits = λ x. f.Fits x.0 × (g x.0).Fits x.1;
}

-- a value, and then another
infixr 20 ◌▸◌
abbrev pub ◌▸◌ : {A B : Type 0} → Form A → Form B → Form (A × B)
f ▸ g = led f (λ a. g)

-- ---- values of a type of their own

-- a struct by its fields
abbrev pub struct : {A B : Type 0} → Form A → (B → A) → (A → B) → Form B
struct f fields make = record {
  text = λ x. f.text (fields x);
  read = λ bytes. f.read bytes >>= λ a. Some (make a.0, a.1);
  Fits = λ x. f.Fits (fields x);
}

-- a value by another one, of which not each makes one
abbrev pub checked : {A B : Type 0} → Form A → (B → A) → (A → Option B) → Form B
checked f tell make = record {
  text = λ x. f.text (tell x);
  read = λ bytes. f.read bytes >>= λ a. make a.0 >>= λ b. Some (b, a.1);
  Fits = λ x. f.Fits (tell x) × (make (tell x) ≡ Some x);
}

-- a value that passes a test, and none otherwise
abbrev pub tested : {A : Type 0} → Bool → A → Option A
tested test x = if test then Some x else None

-- a struct by its fields, which pass a test
abbrev pub passing : {A B : Type 0} → Form A → (B → A) → (A → Bool) → (A → B) → Form B
passing f fields test make = checked f fields (λ a. tested (test a) (make a))

-- ---- tags

-- the bytes of what a value holds as this variant
abbrev pub text_if : {A : Type 0} → Form A → Option A → List ℕ
text_if f None = []
text_if f (Some a) = f.text a

-- a value is this variant, made of what it holds, which fits
abbrev pub FitsIf : {A B : Type 0} → Form A → (A → B) → B → Option A → Type 0
FitsIf f make x None = ⊥
FitsIf f make x (Some a) = f.Fits a × (make a ≡ x)

-- the values of one variant, by what it holds
abbrev pub variant : {A B : Type 0} → Form A → (A → B) → (B → Option A) → Form B
variant f make held = record {
  text = λ x. text_if f (held x);
  read = λ bytes. f.read bytes >>= λ a. Some (make a.0, a.1);
  Fits = λ x. FitsIf f make x (held x);
}

-- a variant that holds nothing
abbrev pub constant : {B : Type 0} → B → Form B
constant value = record {
  text = λ x. [];
  read = λ bytes. Some (value, bytes);
  Fits = λ x. value ≡ x;
}

-- no value
abbrev pub no_form : {B : Type 0} → Form B
no_form = record { text = λ x. []; read = λ bytes. None; Fits = λ x. ⊥ }

-- a form where a number is this one, and another where it is not
abbrev pub choose : {B : Type 0} → ℕ → ℕ → Form B → Form B → Form B
choose tag value this that = record {
  text = λ x. (if tag == value then this.text x else that.text x);
  read = λ bytes. (if tag == value then this.read bytes else that.read bytes);
  Fits = λ x. ((tag ≡ value) × this.Fits x) ⊎ ((tag ≡ value → ⊥) × that.Fits x);
}

-- a value by its tag, a byte, and then as the tag tells
abbrev pub tagged : {B : Type 0} → (B → ℕ) → (ℕ → Form B) → Form B
tagged tag form = record {
  text = λ x. tag x ∷ (form (tag x)).text x;
  read = λ bytes. byte_at bytes >>= λ t. (form t.0).read t.1;
  Fits = λ x. (tag x < 256) × (form (tag x)).Fits x;
}

-- a record by its tag, and then its whole body as the tag tells
abbrev pub in_record : {B : Type 0} → (B → ℕ) → (ℕ → Form B) → Form B
in_record tag form = record {
  text = λ x. record_text (tag x) ((form (tag x)).text x);
  read = λ bytes. record_at bytes >>= λ r. whole_of (form r.0.0).read r.0.1 >>= λ x. Some (x, r.1);
  Fits = λ x. (tag x < 256) × ((length ((form (tag x)).text x) < 256 ^ 4) × (form (tag x)).Fits x);
}

-- ---- lists after their numbers

-- the number of values in a byte, and the values
abbrev pub counted : {A : Type 0} → Form A → Form (List A)
counted f = struct (led byte (λ n. many_of n f)) (λ xs. (length xs, xs)) (λ p. p.1)

-- the number of bytes in a byte, and the bytes
abbrev pub counted_text : Form (List ℕ)
counted_text = struct (led byte (λ n. text_of n)) (λ xs. (length xs, xs)) (λ p. p.1)

-- bytes that are the spelling of this value, all of them
abbrev pub IsSpelled : {A : Type 0} → Form A → List ℕ → A → Type 0
IsSpelled f bytes x = f.Fits x × (bytes ≡ f.text x)
