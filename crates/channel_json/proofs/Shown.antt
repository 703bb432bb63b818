-- Texts as they are written.
use Rattle.std.proofs.Common.{◌≡◌, ℕ, ◌<◌, Bool, true, false, cond, Option, None, inl, inr, List}
use Rattle.std.proofs.Common.{[], ◌∷◌, decimal, length, get_or, ◌^◌, zero, suc, refl, arith}
use Rattle.std.specs.Str.{is_utf8, IsUtf8}
use Rattle.std.proofs.lemmas.Bool.{cases_lt, false_from_ne_true}
use Rattle.std.proofs.lemmas.Fmt.{IsAscii-decimal}
use Rattle.std.proofs.lemmas.List.{get_or_past}
use Rattle.std.proofs.lemmas.List.Elements.{All-get_or}
use Rattle.std.proofs.lemmas.Str.{IsUtf8-from_is_utf8, is_utf8-from_IsUtf8, IsUtf8-from_ascii}
use Rattle.std.proofs.lemmas.Str.{IsUtf8-append}
use Rattle.io_caps.specs.Port.{IsId, IsIdByte}
use Rattle.tai_time.specs.Time.{TaiTime, IsTaiText, colon, tai_text}
use Rattle.serde_json.specs.Data.{Data}
use Rattle.serde_json.specs.Read.{read}
use Rattle.channel_json.specs.Values.{document, shown_text}

pub shown_whole : (text : List ℕ) → IsUtf8 text → shown_text text ≡ text
shown_whole text h = rw (is_utf8-from_IsUtf8 text h) refl

pub shown_empty : (text : List ℕ) → (IsUtf8 text → ⊥) → shown_text text ≡ []
shown_empty text h = rw (false_from_ne_true (is_utf8 text) (λ is. h (IsUtf8-from_is_utf8 text is))) refl

small : (b : ℕ) → IsIdByte b → b < 128
small b (inl h) = omega arith
small b (inr (inl h)) = omega arith
small b (inr (inr (inl h))) = omega arith
small b (inr (inr (inr (inl h)))) = omega arith
small b (inr (inr (inr (inr h)))) = omega arith

ascii_at : (id : List ℕ) → IsId id → (i : ℕ) → get_or id i 0 < 128
ascii_at id h i = elim (cases_lt i (length id)) [
  | inl within ↦ small (get_or id i 0) (All-get_or IsIdByte id i 0 within h.2)
  | inr past ↦ let none : get_or id i 0 ≡ 0 = get_or_past id i 0 past in omega (arith, none)
]

-- the bytes of an id are ASCII
pub shown_id : (id : List ℕ) → IsId id → shown_text id ≡ id
shown_id id h = shown_whole id (IsUtf8-from_ascii id (ascii_at id h))

number_utf8 : (n : ℕ) → n < 2 ^ 64 → IsUtf8 (decimal n)
number_utf8 n h = IsUtf8-from_ascii (decimal n) (IsAscii-decimal n h)

colon_at : (i : ℕ) → get_or (colon ∷ []) i 0 < 128
colon_at zero = omega arith
colon_at (suc i) = omega arith

colon_utf8 : IsUtf8 (colon ∷ [])
colon_utf8 = IsUtf8-from_ascii (colon ∷ []) colon_at

-- the bytes of a time's text are ASCII
pub shown_time : (time : TaiTime) → IsTaiText (tai_text time) time
    → shown_text (tai_text time) ≡ tai_text time
shown_time time h =
    shown_whole (tai_text time)
    (IsUtf8-append (decimal time.secs) (colon ∷ decimal time.nanos)
    (number_utf8 time.secs (omega (arith, h.in_range.0)))
    (IsUtf8-append (colon ∷ []) (decimal time.nanos) colon_utf8
    (number_utf8 time.nanos (omega (arith, h.in_range.1)))))

-- ---- texts that are read

pub document_whole : {o : Option Data} (text : List ℕ) → IsUtf8 text → read text ≡ o
    → document text ≡ o
document_whole text h e = rw (is_utf8-from_IsUtf8 text h) e

document_at : (text : List ℕ) (test : Bool) → is_utf8 text ≡ test → (IsUtf8 text → read text ≡ None)
    → cond test (read text) None ≡ None
document_at text true is h = h (IsUtf8-from_is_utf8 text is)
document_at text false is h = refl

pub document_none : (text : List ℕ) → (IsUtf8 text → read text ≡ None) → document text ≡ None
document_none text h = document_at text (is_utf8 text) refl h
