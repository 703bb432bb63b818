-- The base rows are entries with which a table may begin.
use Rattle.map_entry.specs.Tick.{frame_key}
use Rattle.plain_book.specs.Time.{key_at}
use Rattle.std.proofs.Common.{◌≡◌, ℕ, suc, ◌+◌, ◌*◌, ◌/◌, ◌%◌, ◌^◌, ◌<◌, ◌≤◌, Bool, List, [], ◌∷◌}
use Rattle.std.proofs.Common.{◌++◌}
use Rattle.std.proofs.Common.{length, map, Option, Some, None, inl, inr, refl, sym, subst, arith}
use Rattle.std.specs.Prelude.{All, AllPairs, IsSome, IsSomeAnd}
use Rattle.std.specs.Int.{div_ceil}
use Rattle.std.specs.List.{AllByRecursion, range_with_len}
use Rattle.std.proofs.lemmas.Grind.{div_ceil_times}
use Rattle.std.proofs.lemmas.Nat.{div-add-mod'}
use Rattle.std.proofs.Math.Nat.{add-mul, mul-le-mul_left, mul-le-mul_right}
use Rattle.std.proofs.lemmas.List.Elements.{All-from_recursion, All-head, All-tail}
use Rattle.std.proofs.lemmas.Bool.{cases_Bool, cases_lt, false≢true}
use Rattle.std.proofs.lemmas.List.FromFn.{length-map-range_with_len}
use Rattle.io_caps.specs.declared.limits.TheConstants.{TICKS_PAST_BASE}
use Rattle.map_entry.specs.declared.cell.Cell.{Cell}
use Rattle.map_entry.specs.declared.claims.TheConstants.{CLAIMS_LIMIT}
use Rattle.map_entry.specs.declared.entry.Entry.{Entry}
use Rattle.map_entry.specs.Entry.{HasRowsFrom, IsEntryOk, due, selected}
use Rattle.map_entry.specs.Row.{channels_of_output}
use Rattle.map_entry.specs.Setup.{IsSetup, SetupParts}
use Rattle.map_entry.specs.Tick.{claim_tick}
use Rattle.map_entry.proofs.Rows.{rows_long}
use Rattle.claim_rule.specs.declared.words.TheConstants.{TICKS_LIMIT}
use Rattle.claim_rule.specs.Rule.{Rises}
use Rattle.claim_word.specs.Starts.{IsBase}
use Rattle.book_words.specs.declared.calls.JournalCall.{JournalCall}
use Rattle.book_words.specs.declared.requests.Request.TheVariants.{Activate, Delete, Active}
use Rattle.book_words.specs.declared.requests.Request.TheVariants.{Pending}
use Rattle.book_words.specs.declared.requests.Request.{Request}
use Rattle.book_words.specs.Calls.{call_due}
use Rattle.plain_book.specs.Carry.{carried, carried_row, entries_where}
use Rattle.plain_book.specs.Desk.{BookStateParts}
use Rattle.plain_book.specs.Journal.{base_entries, base_entry, call_entries, change_entry}
use Rattle.plain_book.specs.Journal.{changes_of}
use Rattle.plain_book.specs.Journal.{entries_of, kept_entry, request_entries}
use Rattle.plain_book.specs.Legal.{IsAccepted, IsLegalJournal}
use Rattle.plain_book.specs.Pending.{is_pending}
use Rattle.plain_book.specs.Rows.{AreEntries}
use Rattle.plain_book.specs.Time.{begin, tick_after}
use Rattle.plain_book.proofs.Carried.{all_where, pending_few}
use Rattle.plain_book.proofs.Commits.{legal_more}
use Rattle.plain_book.proofs.Prefixes.{legal_by, no_calls}
use Rattle.plain_book.proofs.Entries.{entries_more, entries_none}
use Rattle.plain_book.proofs.Keeping.{desk_entries, has_outputs}
use Rattle.plain_book.proofs.Lists.{all_append, all_from_in, all_in, in_last}
use Rattle.plain_book.proofs.Sound.{all_map, base_rows, entries_are, entries_due, row_is}
use Rattle.plain_book.proofs.Timing.{have_starts, key_below, start_in_time}
use Rattle.plain_book.proofs.Waiting.{HasOutputs}
use Rattle.live_book.specs.Books.{IsRest}
use Rattle.live_book.proofs.Overs.{first_used}

rises_of : (s : SetupParts) (outputs : List ℕ) → Rises 0 (map (base_entry s) outputs) 0
rises_of s [] = omega arith
rises_of s (o ∷ os) = (omega arith, rises_of s os)

base_are : (s : SetupParts) → IsSetup s → AreEntries s (key_at s s.device.base) (base_entries s)
base_are s setup =
    subst (AreEntries s (key_at s s.device.base)) (entries_none s)
    (entries_are s 0 [] setup (has_outputs s setup) (no_calls s 0))

row_there : (s : SetupParts) (entries : List Entry) (output tick : ℕ) (o : Option (List Cell))
    → AreEntries s (key_at s s.device.base) entries → selected entries output tick ≡ o → IsSome o
    → IsSomeAnd o (λ row. length row ≡ channels_of_output s.device output)
row_there s entries output tick (Some row) are is some =
    (row_is s (key_at s s.device.base) entries output tick row are is).long
row_there s entries output tick None are is some = absurd (false≢true some)

row_there_at : (s : SetupParts) (since : ℕ) (entries : List Entry) (output tick : ℕ)
    (o : Option (List Cell))
    → AreEntries s since entries → selected entries output tick ≡ o → IsSome o
    → IsSomeAnd o (λ row. length row ≡ channels_of_output s.device output)
row_there_at s since entries output tick (Some row) are is some =
    (row_is s since entries output tick row are is).long
row_there_at s since entries output tick None are is some = absurd (false≢true some)

covers_of : (s : SetupParts) → IsSetup s
    → HasRowsFrom s.device (base_entries s)
    (frame_key (claim_tick s.device.base (length s.device.outputs) 0) 0)
covers_of s setup output tick low from =
    let are = base_are s setup in
    row_there s (base_entries s) output tick (selected (base_entries s) output tick) are refl
    (are.cover output tick low (omega (arith, from)))

-- they may begin a table
pub base_is : (s : SetupParts) → IsSetup s → IsBase s 0 (base_entries s)
base_is s setup = record {
  few = omega (
    arith,
    length-map-range_with_len (base_entry s) 0 (length s.rows),
    rows_long s setup,
    setup.device.bounds.few_outputs,
  );
  rows = All-from_recursion (IsEntryOk s.device) (base_entries s) (base_rows s setup);
  ticks = All-from_recursion (λ (e : Entry). e.tick < TICKS_LIMIT) (base_entries s)
      (all_map (λ (e : Entry). e.tick < TICKS_LIMIT) (base_entry s)
      (range_with_len 0 (length s.rows))
      (λ o i. let low = key_below s (key_at s s.device.base) setup
      (start_in_time s s.device.base setup (omega arith)) in omega (arith, low)));
  rises = rises_of s (range_with_len 0 (length s.rows));
  covers = covers_of s setup;
}

-- ---- so is what is carried

rises_less : (es : List Entry) (low a high : ℕ) → low ≤ a → Rises a es high → Rises low es high
rises_less [] low a high le rises = omega (arith, le, rises)
rises_less (e ∷ es) low a high le rises = (omega (arith, le, rises.0), rises.1)

rises_map : {X : Type 0} (f : X → Entry) (xs : List X) (rest : List Entry) (low a high : ℕ)
    → ((x : X) → (f x).at ≡ a) → low ≤ a → Rises a rest high → Rises low (map f xs ++ rest) high
rises_map f [] rest low a high each le rises = rises_less rest low a high le rises
rises_map f (x ∷ xs) rest low a high each le rises =
    let at = each x in (
      omega (arith, at, le),
      rises_map f xs rest (f x).at a high each (omega (arith, at)) rises,
    )

-- calls whose claims never fall, between two numbers
abbrev CallsRise : ℕ → List JournalCall → ℕ → Type 0
CallsRise low [] high = low ≤ high
CallsRise low (c ∷ cs) high = (low ≤ c.at) × CallsRise c.at cs high

calls_rise : (calls : List JournalCall) (low high : ℕ) → low ≤ high
    → All (λ c. low ≤ c.at) calls → AllPairs (λ a b. a.at ≤ b.at) calls
    → All (λ c. c.at ≤ high) calls
    → CallsRise low calls high
calls_rise [] low high le first pairs within = le
calls_rise (c ∷ cs) low high le first pairs within =
    let up : low ≤ c.at = All-head (λ (x : JournalCall). low ≤ x.at) c cs first in
    let top : c.at ≤ high = All-head (λ (x : JournalCall). x.at ≤ high) c cs within in (
      up,
      calls_rise cs c.at high top
          (λ k d lt. pairs 0 (suc k) d (omega arith) (omega (arith, lt)))
          (λ i j d less lt. pairs (suc i) (suc j) d (omega (arith, less)) (omega (arith, lt)))
          (All-tail (λ (x : JournalCall). x.at ≤ high) c cs within),
    )

request_rises : (s : SetupParts) (before : List JournalCall) (es : List Entry) (at tick offset : ℕ)
    (request : Request) (rest : List Entry) (low high : ℕ) → low ≤ at → Rises at rest high
    → Rises low (request_entries s before es at tick offset request ++ rest) high
request_rises s before es at tick offset (Activate when action) rest low high le rises =
    rises_map (change_entry s es at tick offset action) action rest low at high (λ c. refl) le rises
request_rises s before es at tick offset (Delete id) rest low high le rises =
    rises_map (kept_entry s es at tick offset) (changes_of s before at id) rest low at high
    (λ c. refl) le rises
request_rises s before es at tick offset Active rest low high le rises =
    rises_less rest low at high le rises
request_rises s before es at tick offset Pending rest low high le rises =
    rises_less rest low at high le rises

where_rises : (s : SetupParts) (keep : JournalCall → Bool) (before calls : List JournalCall)
    (low high : ℕ) → CallsRise low calls high
    → Rises low (entries_where s keep before calls) high
where_rises s keep before [] low high le = le
where_rises s keep before (c ∷ calls) low high rise =
    let rest = where_rises s keep (before ++ c ∷ []) calls c.at high rise.1 in
    elim (cases_Bool (keep c)) [
      | inl kept ↦
          rw kept
          (request_rises s before (entries_of s before) c.at c.tick c.offset c.request
          (entries_where s keep (before ++ c ∷ []) calls) low high rise.0 rest)
      | inr out ↦
          rw out
          (rises_less (entries_where s keep (before ++ c ∷ []) calls) low c.at high rise.0 rest)
    ]

pub carried_rises : (s : SetupParts) (claims : ℕ) (journal : List JournalCall)
    → IsLegalJournal s claims journal → Rises 0 (carried s journal claims) claims
carried_rises s claims journal legal =
    rises_map (carried_row s journal claims) (range_with_len 0 (length s.device.outputs))
    (entries_where s (is_pending s journal claims) [] journal) 0 0 claims (λ o. refl) (omega arith)
    (where_rises s (is_pending s journal claims) [] journal 0 claims
    (calls_rise journal 0 claims (omega arith) (λ k d lt. omega arith) legal.rises legal.within))

-- words can spell their ticks
abbrev IsLow : Entry → Type 0
IsLow e = e.tick < TICKS_LIMIT

base_low : (s : SetupParts) → IsSetup s → AllByRecursion IsLow (base_entries s)
base_low s setup =
    all_map IsLow (base_entry s) (range_with_len 0 (length s.rows))
    (λ o i. let low = key_below s (key_at s s.device.base) setup
    (start_in_time s s.device.base setup (omega arith)) in omega (arith, low))

more_low : (s : SetupParts) (before : List JournalCall) (call : JournalCall) → IsSetup s
    → IsLegalJournal s call.at before → IsAccepted s before call
    → AllByRecursion IsLow (entries_of s before)
    → AllByRecursion IsLow (entries_of s (before ++ call ∷ []))
more_low s before call setup legal is so_far =
    let all = legal_more s call.at before call legal is refl in
    let start = have_starts s call.at (before ++ call ∷ []) all call (in_last before call) in
    let low = key_below s (call_due call) setup start in
    rw (entries_more s before call)
    (all_append IsLow (entries_of s before) (call_entries s before (entries_of s before) call)
    so_far
    (all_from_in IsLow (call_entries s before (entries_of s before) call)
    (λ e i.
    let at = all_in (λ (x : Entry). due x ≡ call_due call) e
    (call_entries s before (entries_of s before) call) (entries_due s before call is) i in
    omega (arith, at, low))))

all_low : (s : SetupParts) (m : ℕ) (journal : List JournalCall) → IsSetup s
    → IsLegalJournal s m journal → AllByRecursion IsLow (entries_of s journal)
all_low s m journal setup legal =
    legal_by s (λ (j : List JournalCall). AllByRecursion IsLow (entries_of s j))
    (rw (entries_none s) (base_low s setup))
    (λ before call legal is so_far. more_low s before call setup legal is so_far) m journal legal

-- the first tick that has not begun is far below the limit
pub base_below : (s : SetupParts) → IsSetup s → s.device.base ≤ 192000 * 2 ^ 40
base_below s is =
    let rate = is.device.bounds.rate in
    let most : s.device.rate.hz ≤ 192000 = grind (arith, rate) in
    let least : (s.device.base + TICKS_PAST_BASE) * 1
    ≤ (s.device.base + TICKS_PAST_BASE) * s.device.rate.frames =
    mul-le-mul_left (s.device.base + TICKS_PAST_BASE) rate.1 in
    omega (arith, is.device.bounds.base, least, most)

less_by : (a b n : ℕ) → a * n < b * n → a < b
less_by a b n lt = elim (cases_lt a b) [
  | inl less ↦ less
  | inr more ↦ let m : b * n ≤ a * n = mul-le-mul_right n more in absurd (omega (arith, m, lt))
]

-- the first tick that has not begun after a number of claims is at most that number of ticks after
-- the first one
tick_within : (s : SetupParts) (claims ticks : ℕ) → HasOutputs s
    → claims ≤ ticks * length s.device.outputs
    → tick_after s claims ≤ s.device.base + ticks
tick_within s claims ticks some le =
    let n : ℕ = length s.device.outputs in
    let d : ℕ = div_ceil claims n in
    let high : d * n < claims + n = (div_ceil_times claims n some).1 in
    let most : d < ticks + 1 =
    less_by d (ticks + 1) n (omega (arith, high, le, add-mul ticks 1 n)) in
    omega (arith, most)

tick_low : (s : SetupParts) (claims : ℕ) → IsSetup s → claims < CLAIMS_LIMIT
    → tick_after s claims < TICKS_LIMIT
tick_low s claims is few =
    let some = is.device.bounds.some_output in
    let most : claims * 1 ≤ claims * length s.device.outputs = mul-le-mul_left claims some in
    omega (arith, tick_within s claims claims some (omega (arith, most)), base_below s is, few)

range_low : (s : SetupParts) (claims : ℕ) (journal : List JournalCall)
    → tick_after s claims < TICKS_LIMIT
    → AllByRecursion IsLow
    (map (carried_row s journal claims) (range_with_len 0 (length s.device.outputs)))
range_low s claims journal low =
    all_map IsLow (carried_row s journal claims) (range_with_len 0 (length s.device.outputs))
    (λ o i. low)

carried_low : (s : SetupParts) (claims : ℕ) (journal : List JournalCall) → IsSetup s
    → IsLegalJournal s claims journal → claims < CLAIMS_LIMIT
    → AllByRecursion IsLow (carried s journal claims)
carried_low s claims journal setup legal few =
    all_append IsLow
    (map (carried_row s journal claims) (range_with_len 0 (length s.device.outputs)))
    (entries_where s (is_pending s journal claims) [] journal)
    (range_low s claims journal (tick_low s claims setup few))
    (all_where IsLow s (is_pending s journal claims) journal (all_low s claims journal setup legal))

-- at whole ticks the next tick is the first that has not begun
whole_tick : (s : SetupParts) (claims : ℕ) → HasOutputs s
    → claims % length s.device.outputs ≡ 0
    → begin s claims ≡ frame_key (claim_tick s.device.base (length s.device.outputs) claims) 0
whole_tick s claims some whole =
    let n : ℕ = length s.device.outputs in
    let parts : claims / n * n + claims % n ≡ claims = div-add-mod' claims n in
    let ceil = div_ceil_times claims n some in
    let up : div_ceil claims n * n < (claims / n + 1) * n =
    omega (arith, ceil.0, ceil.1, parts, whole, add-mul (claims / n) 1 n) in
    let down : claims / n * n ≤ div_ceil claims n * n =
    omega (arith, ceil.0, ceil.1, parts, whole) in
    let less : div_ceil claims n < claims / n + 1 = less_by (div_ceil claims n)
    (claims / n + 1) n up in
    let more : claims / n < div_ceil claims n + 1 =
    less_by (claims / n) (div_ceil claims n + 1) n
    (omega (arith, down, some, add-mul (div_ceil claims n) 1 n)) in
    omega (arith, less, more)

covers_carried : (s : SetupParts) (base : List Entry) (p : BookStateParts) → IsRest s base p
    → p.seen % length s.device.outputs ≡ 0
    → HasRowsFrom s.device base
    (frame_key (claim_tick s.device.base (length s.device.outputs) p.seen) 0)
covers_carried s base p is whole output tick low from =
    let some = has_outputs s is.desk.setup in
    let are = desk_entries s p.seen base p is.desk in
    row_there_at s (begin s p.seen) base output tick (selected base output tick) are refl
    (are.cover output tick low (omega (arith, from, whole_tick s p.seen some whole)))

-- what is carried may begin a table
pub carried_base : (s : SetupParts) (base : List Entry) (p : BookStateParts) → IsRest s base p
    → p.seen % length s.device.outputs ≡ 0 → p.seen < CLAIMS_LIMIT → IsBase s p.seen base
carried_base s base p is whole few =
    let setup = is.desk.setup in
    record {
      few =
          omega (
            arith,
            first_used s base p is,
            pending_few s p.seen base p is.desk,
            setup.device.bounds.few_outputs,
          );
      rows = is.desk.rows;
      ticks = All-from_recursion IsLow base
          (subst (AllByRecursion IsLow) (sym is.base_is)
          (carried_low s p.seen p.journal setup is.desk.legal few));
      rises =
          subst (λ (es : List Entry). Rises 0 es p.seen) (sym is.base_is)
          (carried_rises s p.seen p.journal is.desk.legal);
      covers = covers_carried s base p is whole;
    }
