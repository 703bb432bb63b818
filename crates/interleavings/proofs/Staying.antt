-- A claim stays as it is by every event but a look for it.
use Rattle.map_entry.specs.Tick.{frame_key}
use Rattle.interleavings.proofs.Shapes.{HasShape}
use Rattle.packet_writer.proofs.ClaimLaws.{packet_by-same}
use Rattle.packet_writer.proofs.ClaimLaws.{names_by-same}
use Rattle.packet_writer.specs.Heard.{AreRows}
use Rattle.packet_writer.specs.Flags.{names_by}
use Rattle.packet_writer.specs.Packet.{packet_by}
use Rattle.std.proofs.Common.{◌≡◌, ℕ, ◌<◌, ◌≤◌, Bool, true, false, eqb, ltb, List, [], ◌∷◌}
use Rattle.std.proofs.Common.{◌++◌, length, take, drop, map, Option, Some, None, inl, inr, refl}
use Rattle.std.proofs.Common.{sym, ap, ◌∙◌, arith, zero-add}
use Rattle.std.specs.Prelude.{◌&&◌, ◌||◌, All, is_some, if◌then◌else◌, ℤ}
use Rattle.std.specs.List.{range_with_len}
use Rattle.std.specs.Option.{option_or, option_to_list, unwrap_or}
use Rattle.std.proofs.Math.Seq.{drop-append_seam, take-append_seam}
use Rattle.std.proofs.lemmas.Bool.{cases_Bool, cases_lt, and_parts, eqb-true, lt-ltb, false≢true}
use Rattle.std.proofs.lemmas.Bool.{and_right}
use Rattle.std.proofs.lemmas.List.{get_or_past}
use Rattle.std.proofs.lemmas.List.Elements.{All-nil, All-push}
use Rattle.std.proofs.lemmas.List.FromFn.{get_or-map-range_with_len, length-map-range_with_len}
use Rattle.list_laws.proofs.Ranges.{map_same_below}
use Rattle.list_laws.proofs.Options.{option_or-None, option_or-Some}
use Rattle.map_entry.specs.declared.cell.Cell.{Cell}
use Rattle.map_entry.specs.Entry.{selected}
use Rattle.map_entry.specs.Setup.{SetupParts}
use Rattle.packet_writer.specs.Flags.{is_named}
use Rattle.packet_writer.specs.Packet.{Blocks, claim_rows, flag_of, output_of_claim}
use Rattle.packet_writer.specs.Packet.{packet_on}
use Rattle.book_words.specs.declared.calls.JournalCall.{JournalCall}
use Rattle.book_words.specs.declared.history.ClaimItem.{ClaimItem}
use Rattle.book_words.specs.declared.requests.Request.{Request}
use Rattle.plain_book.specs.Book.{call_of, reply_of}
use Rattle.book_words.specs.History.{claim_item}
use Rattle.plain_book.specs.Journal.{entries_of}
use Rattle.plain_book.specs.Time.{tick_of_claim}
use Rattle.plain_book.specs.Legal.{IsLegalJournal}
use Rattle.plain_book.proofs.Giving.{call_parts, given_legal}
use Rattle.plain_book.proofs.Prefixes.{no_calls}
use Rattle.plain_book.proofs.Steady.{claimed}
use Rattle.interleavings.specs.declared.events.Answer.{Answer}
use Rattle.interleavings.specs.declared.events.Event.{Event}
use Rattle.interleavings.specs.declared.events.Event.TheVariants.{Claim, Look, Set, Close, Call}
use Rattle.interleavings.specs.declared.events.AnsweredEvent.{AnsweredEvent}
use Rattle.interleavings.specs.Events.{IsRun, answer_of, block_in, call_in, claims_in, journal_in}
use Rattle.interleavings.specs.Events.{latest_of, taken, taken_by}
use Rattle.interleavings.specs.Run.{claim_in, claim_with, has_seen, is_for, looks, saw, seen_flags}
use Rattle.interleavings.specs.Run.{seen_from, sees_by, worker_of}
use Rattle.interleavings.proofs.Answering.{given_in, run_given}
use Rattle.interleavings.proofs.Counting.{AreDrawn, are_drawn, worker_old}
use Rattle.interleavings.proofs.Runs.{journal_more, run_more}
use Rattle.interleavings.proofs.Sights.{block_more, seen_more, seen_there, set_by}

below : (k j : ℕ) → k ≤ j → (k ≡ j → ⊥) → k < j
below k j le apart = elim (cases_lt k j) [
  | inl lt ↦ lt
  | inr ge ↦ absurd (apart (omega (arith, le, ge)))
]

-- ---- claims of the same rows, sights and blocks

-- of the inputs that rows name those that were seen
abbrev flags_with : SetupParts → (ℕ → List Cell) → (ℕ → Bool) → List Bool
flags_with s rows seen =
    map (λ input. is_named s.device.rate.frames rows input && seen input)
    (range_with_len 0 (length s.device.inputs))

-- a claim by its rows
abbrev claim_from : SetupParts → (ℕ → List Cell) → (ℕ → Option (List ℤ)) → List Bool → ℕ → ClaimItem
claim_from s rows found flags k =
    claim_item k flags (packet_on s.device (output_of_claim s k) rows found (tick_of_claim s k))

flag_seen : (s : SetupParts) (rows : ℕ → List Cell) (seen : ℕ → Bool) (input : ℕ)
    → flag_of (flags_with s rows seen) input ≡ true
    → seen input ≡ true
flag_seen s rows seen input h =
    let n = length s.device.inputs in
    let f = λ (i : ℕ). is_named s.device.rate.frames rows i && seen i in
    elim (cases_lt input n) [
      | inl lt ↦
          (and_parts (is_named s.device.rate.frames rows input) (seen input)
          (sym (get_or-map-range_with_len f 0 n input input false lt (zero-add input)) ∙ h)).1
      | inr past ↦
          let out = get_or_past (map f (range_with_len 0 n)) input false
          (omega (arith, past, length-map-range_with_len f 0 n)) in
          absurd (false≢true (sym out ∙ h))
    ]

choose : (b : Bool) (x y : Option (List ℤ)) → (b ≡ true → x ≡ y)
    → (if b then x else None) ≡ (if b then y else None)
choose true x y same = same refl
choose false x y same = refl

-- The same claim: with the same rows, the same sights of each input, and the same blocks where they
-- were seen.
pub claim_same : (s : SetupParts) (journal journal' : List JournalCall) (blocks blocks' : Blocks)
    (seen seen' : ℕ → Bool) (k : ℕ)
    → AreRows s.device.rate.frames (claim_rows s (entries_of s journal) k)
    (claim_rows s (entries_of s journal') k)
    → ((input : ℕ) → input < length s.device.inputs → seen input ≡ seen' input)
    → ((input : ℕ) → seen input ≡ true
    → blocks input (tick_of_claim s k) ≡ blocks' input (tick_of_claim s k))
    → claim_with s journal blocks k (seen_flags s journal seen k)
    ≡ claim_with s journal' blocks' k (seen_flags s journal' seen' k)
claim_same s journal journal' blocks blocks' seen seen' k same sights there =
    let n = length s.device.inputs in
    let es = entries_of s journal in
    let es' = entries_of s journal' in
    let flags_same : seen_flags s journal seen k ≡ seen_flags s journal' seen' k =
    map_same_below (λ input. names_by s es k input && seen input)
    (λ input. names_by s es' k input && seen' input) n
    (λ i lt. ap (λ (b : Bool). b && seen i) (names_by-same s es es' k same i)
    ∙ ap (λ (b : Bool). names_by s es' k i && b) (sights i lt)) in
    let text =
    packet_by-same s es es' blocks blocks' (seen_flags s journal seen k)
    (seen_flags s journal' seen' k) k same
    (λ input named. ap (λ (f : List Bool). flag_of f input) flags_same)
    (λ input named set. there input (flag_seen s (claim_rows s es k) seen input set)) in
    ap (claim_item k (seen_flags s journal seen k)) text
    ∙ ap (λ (f : List Bool).
    claim_item k f (packet_by s es' blocks' (seen_flags s journal' seen' k) k)) flags_same

-- ---- the rows of a claim that was made

-- the calls of a run are a legal journal
pub run_journal : (s : SetupParts) (ticks : ℕ) (events : List AnsweredEvent) → IsRun s ticks events
    → IsLegalJournal s (claims_in events) (journal_in s events)
run_journal s ticks events run =
    given_legal s [] 0 (given_in events) (journal_in s events) (claims_in events) (no_calls s 0)
    (run_given s ticks events run)

-- a call that is accepted now is accepted at the claims made
late_call : (s : SetupParts) (before : List JournalCall) (client claims : ℕ) (request : Request)
    (o : Option JournalCall)
    → call_of s before client claims request (reply_of s before claims request) ≡ o
    → All (λ c. claims ≤ c.at) (option_to_list o)
late_call s before client claims request None e = All-nil (λ (c : JournalCall). claims ≤ c.at)
late_call s before client claims request (Some call) e =
    let is = call_parts s before client claims request (reply_of s before claims request) call e in
    All-push (λ (c : JournalCall). claims ≤ c.at) [] call
    (All-nil (λ (c : JournalCall). claims ≤ c.at)) (omega (arith, is.at_is))

late_calls : (s : SetupParts) (ticks : ℕ) (before : List AnsweredEvent) (event : Event)
    → All (λ c. claims_in before ≤ c.at)
    (option_to_list (call_in s (journal_in s before) event (answer_of s ticks before event)))
late_calls s ticks before (Claim worker) = All-nil (λ (c : JournalCall). claims_in before ≤ c.at)
late_calls s ticks before (Look worker input) =
    All-nil (λ (c : JournalCall). claims_in before ≤ c.at)
late_calls s ticks before (Set input tick block) =
    All-nil (λ (c : JournalCall). claims_in before ≤ c.at)
late_calls s ticks before (Close input upto) =
    All-nil (λ (c : JournalCall). claims_in before ≤ c.at)
late_calls s ticks before (Call client request) =
    let journal = journal_in s before in
    let claims = claims_in before in
    late_call s journal client claims request
    (call_of s journal client claims request (reply_of s journal claims request)) refl

pub rows_stay : (s : SetupParts) (ticks : ℕ) (before : List AnsweredEvent) (event : Event) (k : ℕ)
    → HasShape s → IsRun s ticks before
    → k < claims_in before
    → AreRows s.device.rate.frames (claim_rows s (entries_of s (journal_in s before)) k)
    (claim_rows s (entries_of s (journal_in s (before ++ taken_by s ticks before event ∷ []))) k)
rows_stay s ticks before event k some run lt f within =
    let t = taken_by s ticks before event in
    let after : List AnsweredEvent = before ++ t ∷ [] in
    let journal = journal_in s before in
    let calls = option_to_list (call_in s journal t.event t.answer) in
    let o = output_of_claim s k in
    let grown : journal_in s after ≡ journal ++ calls = journal_more s before t in
    let late = late_calls s ticks before event in
    let rest : drop (length journal) (journal_in s after) ≡ calls =
    ap (drop (length journal)) grown ∙ drop-append_seam journal calls in
    let front : take (length journal) (journal_in s after) ≡ journal =
    ap (take (length journal)) grown ∙ take-append_seam journal calls in
    let behind : All (λ c. k < c.at) (drop (length journal) (journal_in s after)) =
    rw rest (λ i d within. let at = late i d within in omega (arith, at, lt)) in
    let legal = run_journal s ticks after (run_more s ticks before t run refl) in
    let same = claimed s (claims_in after) (journal_in s after) o k (length journal) f
    some.0 legal behind (omega (arith, within, some.1)) in
    sym (ap (λ (r : Option (List Cell)). unwrap_or r [])
    (same
    ∙ ap (λ (j : List JournalCall). selected (entries_of s j) o (frame_key (tick_of_claim s k) f))
    front))

-- ---- a claim that was made

pub block_same : (before : List AnsweredEvent) (t : AnsweredEvent) (input tick : ℕ)
    → is_some (block_in before input tick) ≡ true
    → block_in before input tick ≡ block_in (before ++ t ∷ []) input tick
block_same before t input tick there =
    sym (option_or-Some (block_in before input tick) (set_by input tick t) there)
    ∙ sym (block_more before t input tick)

pub or_end : (a b : Bool) → b ≡ false → (a || b) ≡ a
or_end true b h = refl
or_end false b h = h

pub claim_stays : (s : SetupParts) (ticks : ℕ) (before : List AnsweredEvent) (event : Event) (k : ℕ)
    → HasShape s → IsRun s ticks before
    → k < claims_in before
    → ((input : ℕ)
    → sees_by s (worker_of before k) k input
    (option_or (latest_of (worker_of before k) before) None)
    (taken_by s ticks before event) ≡ false)
    → claim_in s (journal_in s before) before k
    ≡ claim_in s (journal_in s (before ++ taken_by s ticks before event ∷ []))
    (before ++ taken_by s ticks before event ∷ []) k
claim_stays s ticks before event k some run lt unseen =
    let t = taken_by s ticks before event in
    let after : List AnsweredEvent = before ++ t ∷ [] in
    let w = worker_of before k in
    let worker : worker_of after k ≡ w = worker_old before t k (are_drawn s ticks before run) lt in
    claim_same s (journal_in s before) (journal_in s after) (block_in before) (block_in after)
    (has_seen s before k) (has_seen s after k) k
    (rows_stay s ticks before event k some run lt)
    (λ input within.
    sym (ap (λ (x : ℕ). seen_from s x k input None after) worker
    ∙ seen_more s w k input None before t
    ∙ or_end (seen_from s w k input None before)
    (sees_by s w k input (option_or (latest_of w before) None) t) (unseen input)))
    (λ input seen. block_same before t input (tick_of_claim s k)
    (seen_there s ticks before run w k input seen))

-- ---- which looks a claim sees

-- a look that sees nothing
pub unseen : (s : SetupParts) (worker k input : ℕ) (latest : Option ℕ) (t : AnsweredEvent)
    → saw t.answer ≡ false
    → sees_by s worker k input latest t ≡ false
unseen s worker k input latest t none =
    let inner : (saw t.answer && is_for s k latest) ≡ false = rw none refl in
    and_right (looks worker input t.event) (saw t.answer && is_for s k latest) inner

-- a look of a worker is for no claim but its latest
pub look_elsewhere : (s : SetupParts) (before : List AnsweredEvent) (worker at k j input : ℕ)
    (answer : Answer) → AreDrawn before
    → latest_of worker before ≡ Some j
    → k < claims_in before → (k ≡ j → ⊥)
    → sees_by s (worker_of before k) k input
    (option_or (latest_of (worker_of before k) before) None) (taken (Look worker at) answer) ≡ false
look_elsewhere s before worker at k j input answer are latest lt apart =
    elim (cases_Bool (eqb worker (worker_of before k))) [
      | inl own ↦
          let w = worker_of before k in
          let o = option_or (latest_of w before) None in
          let e : worker ≡ w = eqb-true worker w own in
          let here : latest_of w before ≡ Some j =
          ap (λ (x : ℕ). latest_of x before) (sym e) ∙ latest in
          let le : k ≤ j = (let u = are.upto k lt in rw here at u) in
          let less : ltb k j ≡ true = lt-ltb k j (below k j le apart) in
          let off : is_for s k o ≡ false =
          ap (is_for s k) (option_or-None (latest_of w before) ∙ here) ∙ rw less refl in
          and_right (looks w input (Look worker at)) (saw answer && is_for s k o)
          (and_right (saw answer) (is_for s k o) off)
      | inr other ↦ rw other refl
    ]
