-- No more activations are pending than there are outputs: each names one that no other names.
use Rattle.std.proofs.Common.{◌≡◌, ℕ, ◌+◌, ◌<◌, ◌≤◌, Bool, true, eqb, cond, List, [], ◌∷◌}
use Rattle.std.proofs.Common.{◌++◌, length, map, None, inl, inr, refl, sym, ap, subst, ◌∙◌, arith}
use Rattle.std.specs.Prelude.{filter}
use Rattle.std.specs.List.{AllByRecursion}
use Rattle.std.proofs.lemmas.Bool.{cases_Bool, eq-eqb, eqb-true, false≢true}
use Rattle.std.proofs.lemmas.List.{length-map, map-append}
use Rattle.std.proofs.lemmas.List.Elements.{filter-append, recursion_from_All}
use Rattle.std.proofs.lemmas.List.Sums.{sum_by-cons}
use Rattle.list_laws.proofs.Items.{count_by-append}
use Rattle.map_entry.specs.Action.{OutputChangeParts}
use Rattle.map_entry.specs.Setup.{IsSetup, SetupParts}
use Rattle.book_words.specs.Calls.{action_of, is_scheduled, names_output}
use Rattle.book_words.specs.declared.calls.JournalCall.{JournalCall}
use Rattle.book_words.specs.declared.requests.Request.{Request}
use Rattle.plain_book.specs.Book.{empty_by}
use Rattle.plain_book.specs.Legal.{IsAccepted, IsLegalJournal}
use Rattle.plain_book.specs.Pending.{is_pending, pending_of}
use Rattle.plain_book.specs.Places.{times_in}
use Rattle.plain_book.proofs.Accepted.{cases}
use Rattle.plain_book.proofs.Keeping.{has_outputs}
use Rattle.plain_book.proofs.Lists.{IsIn, all_in, from_filter, in_last, in_left, in_more}
use Rattle.plain_book.proofs.Locks.{is_free, none_held}
use Rattle.plain_book.proofs.Places.{few_once}
use Rattle.plain_book.proofs.Prefixes.{legal_by}
use Rattle.plain_book.proofs.Sound.{all_map, sound}
use Rattle.plain_book.proofs.Waiting.{HasOutputs, waiting, waits, waits_before}

-- ---- the first output that an activation names

abbrev lead_in : List OutputChangeParts → ℕ
lead_in [] = 0
lead_in (change ∷ action) = change.output

abbrev lead : JournalCall → ℕ
lead call = lead_in (action_of call.request)

-- it names some
abbrev NamesSome : JournalCall → Type 0
NamesSome call = 1 ≤ length (action_of call.request)

first_named : (output : ℕ) (action : List OutputChangeParts) (request : Request)
    → action_of request ≡ action → 1 ≤ length action → lead_in action ≡ output
    → names_output output request ≡ true
first_named output [] request is some e = absurd (omega (arith, some))
first_named output (change ∷ action) request is some e =
    rw (is, eq-eqb change.output output e) refl

lead_named : (output : ℕ) (call : JournalCall) → NamesSome call → lead call ≡ output
    → names_output output call.request ≡ true
lead_named output call some e =
    first_named output (action_of call.request) call.request refl some e

not_empty : (action : List OutputChangeParts) → empty_by action ≡ None → 1 ≤ length action
not_empty [] e = absurd cc
not_empty (change ∷ action) e = omega arith

-- ---- how often a number leads

abbrev leads : (JournalCall → Bool) → List JournalCall → List ℕ
leads p calls = map lead (filter p calls)

-- 1 where it does
abbrev lead_counts : ℕ → ℕ → ℕ
lead_counts y x = cond (eqb y x) 1 0

times_cons : (x y : ℕ) (ys : List ℕ) → times_in x (y ∷ ys) ≡ lead_counts y x + times_in x ys
times_cons x y ys = sum_by-cons (λ (z : ℕ). cond (eqb z x) 1 0) y ys

-- what passes a stronger test leads no more often
fewer_leads : (p q : JournalCall → Bool) (output : ℕ) (calls : List JournalCall)
    → ((c : JournalCall) → IsIn c calls → q c ≡ true → p c ≡ true)
    → times_in output (leads q calls) ≤ times_in output (leads p calls)
fewer_leads p q output [] stronger = omega arith
fewer_leads p q output (c ∷ calls) stronger =
    let rest = fewer_leads p q output calls (λ x i. stronger x (inr i)) in
    elim (cases_Bool (q c)) [
      | inl hit ↦
          rw (hit, stronger c (inl refl) hit)
          (omega (
            arith,
            rest,
            times_cons output (lead c) (leads q calls),
            times_cons output (lead c) (leads p calls),
          ))
      | inr miss ↦ elim (cases_Bool (p c)) [
        | inl more ↦
            rw (miss, more) (omega (arith, rest, times_cons output (lead c) (leads p calls)))
        | inr none ↦ rw (miss, none) rest
      ]
    ]

-- where none of them leads with it
none_leads : (p : JournalCall → Bool) (output : ℕ) (calls : List JournalCall)
    → ((c : JournalCall) → IsIn c calls → p c ≡ true → lead c ≡ output → ⊥)
    → times_in output (leads p calls) ≡ 0
none_leads p output [] none = refl
none_leads p output (c ∷ calls) none =
    let rest = none_leads p output calls (λ x i. none x (inr i)) in
    elim (cases_Bool (p c)) [
      | inl hit ↦ elim (cases_Bool (eqb (lead c) output)) [
        | inl own ↦ absurd (none c (inl refl) hit (eqb-true (lead c) output own))
        | inr other ↦
            let times = times_cons output (lead c) (leads p calls) in
            let none_here : lead_counts (lead c) output ≡ 0 = rw other refl in
            rw hit (omega (arith, rest, times, none_here))
      ]
      | inr miss ↦ rw miss rest
    ]

-- ---- a legal journal

-- each scheduled activation names some output, and no number leads two pending ones
pub record AreLed (s : SetupParts) (journal : List JournalCall) : Type 0 where
  pub some : (c : JournalCall) → IsIn c journal → is_scheduled c.request ≡ true → NamesSome c
  pub once : (claims output : ℕ) → ((c : JournalCall) → IsIn c journal → c.at ≤ claims)
      → times_in output (leads (is_pending s journal claims) journal) ≤ 1

names_more : (s : SetupParts) (before : List JournalCall) (call : JournalCall)
    → IsAccepted s before call → is_scheduled call.request ≡ true → NamesSome call
names_more s before call is later = elim (cases s before call is) [
  | inl a ↦
      subst (λ (r : Request). 1 ≤ length (action_of r)) (sym a.2.asks)
      (not_empty a.1 (is_free s before call.at a.0 a.1 a.2.free).some)
  | inr d ↦ absurd (false≢true (sym (ap is_scheduled d.2.asks) ∙ later))
]

-- the one call more, where it is pending
own_leads : (s : SetupParts) (before : List JournalCall) (call : JournalCall) (claims output : ℕ)
    (q : JournalCall → Bool) → HasOutputs s → IsAccepted s before call → call.at ≤ claims
    → AreLed s before → (q call ≡ true → is_scheduled call.request ≡ true)
    → times_in output (leads (is_pending s before claims) before) ≤ 1
    → times_in output (leads (is_pending s before claims) before)
    + times_in output (leads q (call ∷ [])) ≤ 1
own_leads s before call claims output q some is le so_far scheduled once =
    elim (cases_Bool (q call)) [
      | inr miss ↦ rw miss (omega (arith, once))
      | inl hit ↦ elim (cases_Bool (eqb (lead call) output)) [
        | inr other ↦
            let none_here : lead_counts (lead call) output ≡ 0 = rw other refl in
            rw hit (omega (arith, once, times_cons output (lead call) [], none_here))
        | inl own ↦
            let names : names_output output call.request ≡ true =
            lead_named output call (names_more s before call is (scheduled hit))
            (eqb-true (lead call) output own) in
            let none : times_in output (leads (is_pending s before claims) before) ≡ 0 =
            none_leads (is_pending s before claims) output before (λ c i pends leads_it.
            let w = waits s before claims c pends in
            none_held s before call claims output c some is le names (record {
              member = i;
              pending = w;
              named = lead_named output c (so_far.some c i w.scheduled) leads_it;
            })) in
            let one : lead_counts (lead call) output ≡ 1 = rw own refl in
            rw hit (omega (arith, none, times_cons output (lead call) [], one))
      ]
    ]

led_more : (s : SetupParts) (before : List JournalCall) (call : JournalCall) → HasOutputs s
    → IsAccepted s before call → AreLed s before → AreLed s (before ++ call ∷ [])
led_more s before call some is so_far = record {
  some = λ c i later. elim (in_more c before call i) [
    | inl old ↦ so_far.some c old later
    | inr new ↦
        subst NamesSome new (names_more s before call is
        (ap (λ (x : JournalCall). is_scheduled x.request) new ∙ later))
  ];
  once = λ claims output within.
      let journal = before ++ call ∷ [] in
      let p = is_pending s before claims in
      let q = is_pending s journal claims in
      let parts : leads q journal ≡ leads q before ++ leads q (call ∷ []) =
      ap (map lead) (filter-append q before (call ∷ []))
      ∙ map-append lead (filter q before) (filter q (call ∷ [])) in
      let sum = ap (times_in output) parts
      ∙ count_by-append (λ (y : ℕ). eqb y output) (leads q before) (leads q (call ∷ [])) in
      let fewer = fewer_leads p q output before (λ c i pends.
      waiting s before claims c
      (waits_before s before call claims c (waits s journal claims c pends))) in
      let own = own_leads s before call claims output q some is (within call (in_last before call))
      so_far (λ pends. (waits s journal claims call pends).scheduled)
      (so_far.once claims output (λ c i. within c (in_left c before (call ∷ []) i))) in
      omega (arith, sum, fewer, own);
}

pub are_led : (s : SetupParts) (m : ℕ) (journal : List JournalCall) → HasOutputs s
    → IsLegalJournal s m journal → AreLed s journal
are_led s m journal some legal =
    legal_by s (AreLed s) (record {
      some = λ c i later. absurd i;
      once = λ claims output within. omega arith;
    })
    (λ before call legal is so_far. led_more s before call some is so_far) m journal legal

-- ---- how many are pending

lead_below : (n : ℕ) (action : List OutputChangeParts) → 1 ≤ length action
    → ((c : OutputChangeParts) → IsIn c action → c.output < n) → lead_in action < n
lead_below n [] some each = absurd (omega (arith, some))
lead_below n (change ∷ action) some each = each change (inl refl)

pub few_pending : (s : SetupParts) (claims : ℕ) (journal : List JournalCall) → IsSetup s
    → IsLegalJournal s claims journal
    → length (pending_of s journal claims) ≤ length s.device.outputs
few_pending s claims journal is legal =
    let some = has_outputs s is in
    let n = length s.device.outputs in
    let led = are_led s claims journal some legal in
    let rows = sound s claims journal is some legal in
    let early = recursion_from_All (λ (c : JournalCall). c.at ≤ claims) journal legal.within in
    let p = is_pending s journal claims in
    let below : AllByRecursion (λ y. y < n) (leads p journal) =
    all_map (λ (y : ℕ). y < n) lead (filter p journal) (λ c i.
    let from = from_filter p c journal i in
    lead_below n (action_of c.request)
    (led.some c from.0 (waits s journal claims c from.1).scheduled) (rows.named c from.0)) in
    let few = few_once n (leads p journal) below (λ output.
    led.once claims output (λ c i. all_in (λ (x : JournalCall). x.at ≤ claims) c journal early i))
    in
    omega (arith, few, length-map (filter p journal) lead)
