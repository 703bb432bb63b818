-- How places are set aside and used.
use Rattle.std.proofs.Common.{◌≡◌, ℕ, zero, suc, ◌+◌, ◌<◌, ◌≤◌, Bool, true, false, cond, List, []}
use Rattle.std.proofs.Common.{◌∷◌, ◌++◌, length, Option, Some, None, refl, ap, ◌∙◌, arith, inl, inr}
use Rattle.std.proofs.Common.{zero-add}
use Rattle.std.specs.Prelude.{nat_le, replicate, slice_index_or, slice_set}
use Rattle.io_caps.specs.declared.limits.TheConstants.{PLACES}
use Rattle.map_entry.specs.Setup.{SetupParts}
use Rattle.std.specs.Option.{option_map_or, option_to_list}
use Rattle.std.proofs.lemmas.Bool.{false≢true, leb-true, or_cases}
use Rattle.std.proofs.lemmas.List.{append-nil}
use Rattle.std.proofs.lemmas.List.Sums.{sum_by-append, sum_by-cons}
use Rattle.book_words.specs.declared.calls.JournalCall.{JournalCall}
use Rattle.plain_book.specs.Places.{places_kept, places_of}
use Rattle.claim_rule.specs.declared.view.View.{View}
use Rattle.book_words.specs.declared.given.Given.{Given}
use Rattle.plain_book.specs.Desk.{BookStateParts}
use Rattle.live_book.specs.Books.{HasPlaces, IsBook}
use Rattle.live_book.specs.Places.{PlacesFace, aside_sum, is_aside, may_reserve, places_by}
use Rattle.live_book.specs.Places.{with_aside}

-- the one for whom some are set aside has its place
pub aside_within : (xs : List Bool) (i : ℕ) → slice_index_or xs i false ≡ true → i < length xs
aside_within [] i is = absurd (false≢true is)
aside_within (x ∷ xs) zero is = omega arith
aside_within (x ∷ xs) (suc i) is = let w = aside_within xs i is in omega (arith, w)

sum_first : (each : ℕ) (x : Bool) (xs : List Bool)
    → aside_sum each (x ∷ xs) ≡ cond x each 0 + aside_sum each xs
sum_first each x xs = sum_by-cons (λ (b : Bool). cond b each 0) x xs

-- how many are set aside, with one place changed
pub aside_set : (each : ℕ) (xs : List Bool) (i : ℕ) (b : Bool) → i < length xs
    → aside_sum each (slice_set xs i b) + cond (slice_index_or xs i false) each 0
    ≡ aside_sum each xs + cond b each 0
aside_set each [] i b lt = absurd (omega (arith, lt))
aside_set each (x ∷ xs) zero b lt = omega (arith, sum_first each x xs, sum_first each b xs)
aside_set each (x ∷ xs) (suc i) b lt =
    let rest = aside_set each xs i b (omega (arith, lt)) in
    omega (arith, rest, sum_first each x xs, sum_first each x (slice_set xs i b))

-- some are set aside that were not
pub aside_on : (each : ℕ) (xs : List Bool) (i : ℕ) → i < length xs
    → slice_index_or xs i false ≡ false
    → aside_sum each (slice_set xs i true) ≡ aside_sum each xs + each
aside_on each xs i lt off =
    let all = aside_set each xs i true lt in
    let none : cond (slice_index_or xs i false) each 0 ≡ 0 = ap (λ (b : Bool). cond b each 0) off in
    omega (arith, all, none)

-- they are so no more
pub aside_off : (each : ℕ) (xs : List Bool) (i : ℕ) → slice_index_or xs i false ≡ true
    → aside_sum each (slice_set xs i false) + each ≡ aside_sum each xs
aside_off each xs i on =
    let all = aside_set each xs i false (aside_within xs i on) in
    let some : cond (slice_index_or xs i false) each 0 ≡ each =
    ap (λ (b : Bool). cond b each 0) on in
    omega (arith, all, some)

pub none_sum : (each n : ℕ) → aside_sum each (replicate n false) ≡ 0
none_sum each zero = refl
none_sum each (suc n) =
    sum_first each false (replicate n false) ∙ zero-add (aside_sum each (replicate n false))
    ∙ none_sum each n

-- ---- the places of calls

pub by_more : (calls : List JournalCall) (o : Option JournalCall)
    → places_by (calls ++ option_to_list o)
    ≡ places_by calls + option_map_or (λ call. places_of call.request) o 0
by_more calls None = let same = ap places_by (append-nil calls) in omega (arith, same)
by_more calls (Some call) =
    let sum = sum_by-append (λ (c : JournalCall). places_of c.request) calls (call ∷ []) in
    omega (arith, sum)

-- ---- what is set aside and dropped

aside_less : (each : ℕ) (xs : List Bool) (i : ℕ)
    → aside_sum each (slice_set xs i false) ≤ aside_sum each xs
aside_less each [] i = omega arith
aside_less each (x ∷ xs) zero = omega (arith, sum_first each x xs, sum_first each false xs)
aside_less each (x ∷ xs) (suc i) =
    let rest = aside_less each xs i in
    omega (arith, rest, sum_first each x xs, sum_first each x (slice_set xs i false))

aside_more : (each : ℕ) (xs : List Bool) (i : ℕ)
    → aside_sum each (slice_set xs i true) ≤ aside_sum each xs + each
aside_more each [] i = omega arith
aside_more each (x ∷ xs) zero = omega (arith, sum_first each x xs, sum_first each true xs)
aside_more each (x ∷ xs) (suc i) =
    let rest = aside_more each xs i in
    omega (arith, rest, sum_first each x xs, sum_first each x (slice_set xs i true))

aside_again : (each : ℕ) (xs : List Bool) (i : ℕ) → slice_index_or xs i false ≡ true
    → aside_sum each (slice_set xs i true) ≡ aside_sum each xs
aside_again each xs i on =
    let all = aside_set each xs i true (aside_within xs i on) in
    let some : cond (slice_index_or xs i false) each 0 ≡ each =
    ap (λ (b : Bool). cond b each 0) on in
    omega (arith, all, some)

pub placed_off : (s : SetupParts) (entries pending client : ℕ) (p : PlacesFace)
    → HasPlaces s entries pending p → HasPlaces s entries pending (with_aside p client false)
placed_off s entries pending client p is = record {
  each = is.each;
  enough = is.enough;
  room = let less = aside_less p.each p.aside client in omega (arith, is.room, less);
}

pub placed_on : (s : SetupParts) (entries pending client : ℕ) (p : PlacesFace)
    → HasPlaces s entries pending p → may_reserve p client ≡ true
    → HasPlaces s entries pending (with_aside p client true)
placed_on s entries pending client p is may = record {
  each = is.each;
  enough = is.enough;
  room = elim (or_cases (is_aside p client)
      (nat_le (p.used + (aside_sum p.each p.aside + p.each)) PLACES) may) [
        | inl on ↦ let same = aside_again p.each p.aside client on in omega (arith, is.room, same)
        | inr fits ↦
            let more = aside_more p.each p.aside client in
            let low = leb-true (p.used + (aside_sum p.each p.aside + p.each)) PLACES fits in
            omega (arith, more, low)
      ];
}

-- the book with these dropped, or set aside
pub book_off : (s : SetupParts) (v : View) (p : BookStateParts) (given : List Given)
    (begun client : ℕ)
    (pl : PlacesFace) → IsBook s v p given begun pl
    → IsBook s v p given begun (with_aside pl client false)
book_off s v p given begun client pl is = record {
  setup_is = is.setup_is;
  from_is = is.from_is;
  desk = is.desk;
  lapped = is.lapped;
  placed = placed_off s (length v.entries) (places_kept p.pending) client pl is.placed;
}

pub book_on : (s : SetupParts) (v : View) (p : BookStateParts) (given : List Given)
    (begun client : ℕ)
    (pl : PlacesFace) → IsBook s v p given begun pl → may_reserve pl client ≡ true
    → IsBook s v p given begun (with_aside pl client true)
book_on s v p given begun client pl is may = record {
  setup_is = is.setup_is;
  from_is = is.from_is;
  desk = is.desk;
  lapped = is.lapped;
  placed = placed_on s (length v.entries) (places_kept p.pending) client pl is.placed may;
}
