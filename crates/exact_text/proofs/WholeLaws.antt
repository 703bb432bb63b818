-- Whole bodies, with nothing left over, and records.
use Rattle.std.proofs.Common.{◌≡◌, ℕ, ◌^◌, ◌<◌, true, false, Bool, cond, eqb, List, [], ◌++◌}
use Rattle.std.proofs.Common.{length, take, drop, Option, Some, None, refl, sym, ap, subst, ◌∙◌}
use Rattle.std.proofs.lemmas.Bool.{eqb-true, eqb-false}
use Rattle.std.proofs.lemmas.List.{append-nil, nil_from_length, take_at}
use Rattle.byteorder.specs.Endian.{big_bytes}
use Rattle.exact_text.specs.Readings.{◌>>=◌, nothing_at, whole_of, record_at}
use Rattle.exact_text.specs.Spellings.{record_text}
use Rattle.exact_text.proofs.Exact.{IsBytes, IsBytes-drop, IsBytes-take, Takes, ExactTail, Exact}
use Rattle.exact_text.proofs.Exact.{Always, given, some_is, bind_some, guard_some, Exact-done}
use Rattle.exact_text.proofs.Exact.{Exact-text}
use Rattle.exact_text.proofs.FieldLaws.{wide4, byte_then, number_then, text_then}

pub nothing_parts : (rest : List ℕ) (u : Unit {0}) → nothing_at rest ≡ Some u → rest ≡ []
nothing_parts rest u e =
    let g = guard_some (eqb (length rest) 0) tt u e in
    nil_from_length rest (eqb-true _ _ g.0)

-- ---- records

abbrev pub FitsRecord : ℕ × List ℕ → Type 0
FitsRecord r = (r.0 < 256) × ((length r.1 < 256 ^ 4) × Unit {0})

-- a tag and a body
pub record_exact : Exact record_at (λ r. record_text r.0 r.1) FitsRecord
unfolding record_at
record_exact =
    byte_then (λ r. r.0) (λ r. big_bytes 4 (length r.1) ++ r.1)
    (λ r. (length r.1 < 256 ^ 4) × Unit {0}) _ _ (λ tag tag_fits.
    number_then 4 wide4 (λ r. length r.1) (λ r. r.1) (λ r. Unit {0}) _ _ (λ len len_fits.
    Exact-text _ (λ r. r.1 ++ []) (λ r. r.1) _ _ (λ r. append-nil r.1) (
    text_then len (λ r. r.1) (λ r. []) (λ r. Unit {0}) _ _ (λ r k. k.1) (λ body body_long.
    Exact-done (tag, body) _ (((tt, refl), body_long), refl) (λ r k. rw (← k.0.0.1, ← k.1) refl)))))

-- the body of a record that was read is of bytes too
pub body_bytes : (bytes : List ℕ) (tag : ℕ) (body rest : List ℕ) → IsBytes bytes
    → bytes ≡ record_text tag body ++ rest → IsBytes body
body_bytes bytes tag body rest fits parts =
    let middle : take (length body) (drop 5 bytes) ≡ body =
    ap (λ (z : List ℕ). take (length body) (drop 5 z)) parts
    ∙ take_at body rest (length body) refl in
    subst IsBytes middle (IsBytes-take (length body) (drop 5 bytes) (IsBytes-drop 5 bytes fits))
