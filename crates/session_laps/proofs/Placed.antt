-- The places of a new lap.
use Rattle.std.proofs.Common.{◌≡◌, ℕ, zero, suc, ◌+◌, ◌*◌, ◌<◌, ◌≤◌, Bool, true, false, cond, List, []}
use Rattle.std.proofs.Common.{◌∷◌, length, Option, Some, None, refl, sym, ap, ◌∙◌, subst, arith}
use Rattle.std.proofs.Common.{inl, inr}
use Rattle.std.proofs.Math.Nat.{mul-suc}
use Rattle.std.specs.Prelude.{IfSome, is_some, nat_le, slice_index_or, slice_set}
use Rattle.std.proofs.lemmas.Bool.{cases_Bool, false≢true, le-leb}
use Rattle.std.proofs.lemmas.List.{length-set}
use Rattle.std.proofs.lemmas.List.Sums.{sum_by-cons}
use Rattle.io_caps.specs.declared.limits.TheConstants.{CLIENTS, PLACES}
use Rattle.map_entry.specs.Setup.{IsSetup, SetupParts}
use Rattle.live_book.specs.Books.{BookFace, RestFace, goes_over}
use Rattle.live_book.specs.Places.{PlacesFace, aside_sum, is_aside, may_reserve, none_aside}
use Rattle.live_book.proofs.Placing.{aside_on, none_sum}
use Rattle.session_laps.specs.declared.lap.Lap.{Lap}
use Rattle.session_laps.specs.Sessions.{IsNewLap, SessionFace}

-- how many places are enough for any request, and that none are set aside
record BeginsOn (s : SetupParts) (p : PlacesFace) : Type 0 where
  each : p.each ≡ 2 * length s.device.outputs
  aside : p.aside ≡ none_aside

begins_by : (s : SetupParts) (lap : Lap) (o : Option RestFace) → is_some o ≡ true
    → lap.book.setup ≡ s → IfSome o (λ r. lap.book ≡ goes_over r lap.book.publisher)
    → BeginsOn s lap.book.places
begins_by s lap None some setup over = absurd (false≢true some)
begins_by s lap (Some r) some setup over =
    let same : r.setup ≡ s = sym (ap (λ (b : BookFace). b.setup) over) ∙ setup in record {
      each = ap (λ (b : BookFace). b.places.each) over
          ∙ ap (λ (z : SetupParts). 2 * length z.device.outputs) same;
      aside = ap (λ (b : BookFace). b.places.aside) over;
    }

begins : (s : SessionFace) (lap : Lap) → is_some s.rest ≡ true → IsNewLap s lap
    → BeginsOn s.setup lap.book.places
begins s lap some new = begins_by s.setup lap s.rest some new.setup new.book

-- there is room for one more
may_by : (p : PlacesFace) (client : ℕ) → p.used + (aside_sum p.each p.aside + p.each) ≤ PLACES
    → may_reserve p client ≡ true
may_by p client room = elim (cases_Bool (is_aside p client)) [
  | inl on ↦ grind (arith, on)
  | inr off ↦
      let fits = le-leb (p.used + (aside_sum p.each p.aside + p.each)) PLACES room in
      grind (arith, off, fits)
]

pub one_fits : (s : SessionFace) (lap : Lap) (client : ℕ) → IsSetup s.setup
    → is_some s.rest ≡ true → IsNewLap s lap → may_reserve lap.book.places client ≡ true
one_fits s lap client setup some new =
    let b = begins s lap some new in
    let p = lap.book.places in
    let none : aside_sum p.each p.aside ≡ 0 =
    ap (aside_sum p.each) b.aside ∙ none_sum p.each CLIENTS in
    may_by p client (omega (arith, none, new.room, b.each, setup.device.bounds.few_outputs))

one_most : (each : ℕ) (x : Bool) → cond x each 0 ≤ each
one_most each true = omega arith
one_most each false = omega arith

-- at most as many are set aside as there are clients
sum_most : (each : ℕ) (xs : List Bool) → aside_sum each xs ≤ each * length xs
sum_most each [] = omega arith
sum_most each (x ∷ xs) =
    let rest = sum_most each xs in
    let first : aside_sum each (x ∷ xs) ≡ cond x each 0 + aside_sum each xs =
    sum_by-cons (λ (b : Bool). cond b each 0) x xs in
    omega (arith, rest, first, one_most each x, mul-suc each (length xs))

sum_off : (each : ℕ) (xs : List Bool) (i : ℕ) → i < length xs → slice_index_or xs i false ≡ false
    → aside_sum each xs + each ≤ each * length xs
sum_off each xs i lt off =
    let on = aside_on each xs i lt off in
    let most = sum_most each (slice_set xs i true) in
    let same : each * length (slice_set xs i true) ≡ each * length xs =
    ap (λ (n : ℕ). each * n) (length-set xs i true) in
    omega (arith, on, most, same)

pub all_fit : (s : SessionFace) (lap : Lap) (aside : List Bool) (client : ℕ)
    → length s.setup.device.outputs ≤ 29 → is_some s.rest ≡ true → IsNewLap s lap
    → length aside ≡ CLIENTS → client < CLIENTS
    → may_reserve (record lap.book.places { aside = aside }) client ≡ true
all_fit s lap aside client few some new long lt =
    let b = begins s lap some new in
    let p : PlacesFace = record lap.book.places { aside = aside } in
    elim (cases_Bool (is_aside p client)) [
      | inl on ↦ grind (arith, on)
      | inr off ↦
          let most = sum_off p.each aside client (omega (arith, lt, long)) off in
          let many : p.each * length aside ≡ p.each * CLIENTS = ap (λ (n : ℕ). p.each * n) long in
          may_by p client (omega (arith, most, many, new.room, b.each, few))
    ]
