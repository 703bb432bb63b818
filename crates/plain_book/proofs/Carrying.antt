-- What is carried selects, from the first tick on that has not begun, what the whole journal
-- selects.
use Rattle.map_entry.specs.Tick.{frame_key}
use Rattle.std.proofs.Common.{◌≡◌, ℕ, zero, suc, ◌+◌, ◌<◌, ◌≤◌, Bool, true, false, eqb, List, []}
use Rattle.std.proofs.Common.{◌∷◌, ◌++◌, length, map, Option, Some, None, inl, inr, refl, sym, ap}
use Rattle.std.proofs.Common.{subst, ◌∙◌, append_assoc, arith}
use Rattle.std.specs.Prelude.{IsSome, if◌then◌else◌}
use Rattle.std.specs.List.{list_any, range_with_len}
use Rattle.std.specs.Option.{option_or}
use Rattle.std.proofs.lemmas.Bool.{cases_Bool, cases_lt, le-ltb, eq-eqb, ne_eqb, false≢true}
use Rattle.std.proofs.lemmas.Bool.{or_parts}
use Rattle.std.proofs.lemmas.List.{append-nil}
use Rattle.std.proofs.lemmas.List.Folds.{list_any-append}
use Rattle.list_laws.proofs.Options.{option_or-Some}
use Rattle.map_entry.specs.Action.{OutputChangeParts}
use Rattle.map_entry.specs.Entry.{due, row_where, rules, selected}
use Rattle.map_entry.specs.Setup.{IsSetup, SetupParts}
use Rattle.map_entry.specs.declared.cell.Cell.{Cell}
use Rattle.map_entry.specs.declared.entry.Entry.{Entry}
use Rattle.map_entry.proofs.Selection.{selected-append}
use Rattle.book_words.specs.Calls.{action_of, call_due, deletes, is_activation, names_output}
use Rattle.plain_book.specs.Carry.{carried, carried_row, entries_where}
use Rattle.plain_book.specs.Journal.{call_entries, change_entry, entries_of, kept_entry}
use Rattle.plain_book.specs.Journal.{request_entries, row_from}
use Rattle.plain_book.specs.Legal.{IsAccepted, IsLegalJournal}
use Rattle.plain_book.specs.Pending.{is_deleted, is_locked, is_pending, later, pending_of}
use Rattle.plain_book.specs.Time.{begin}
use Rattle.book_words.specs.declared.calls.JournalCall.{JournalCall}
use Rattle.book_words.specs.declared.requests.Request.TheVariants.{Activate, Delete, Active}
use Rattle.book_words.specs.declared.requests.Request.TheVariants.{Pending}
use Rattle.book_words.specs.declared.requests.Request.{Request}
use Rattle.plain_book.proofs.Accepted.{IsDeletion, cases}
use Rattle.plain_book.proofs.Entries.{entries_more}
use Rattle.plain_book.proofs.Lists.{IsIn, any_from, from_filter, in_last, in_left, in_more}
use Rattle.plain_book.proofs.Locks.{Holds, alone, holds_locked, none_held}
use Rattle.plain_book.proofs.Prefixes.{legal_by}
use Rattle.plain_book.proofs.Sound.{all_map, covered, deleted_entries, entries_are}
use Rattle.plain_book.proofs.Steady.{in_time, none_named, none_yet, not_any, or_first, some_is}
use Rattle.plain_book.proofs.Steady.{steady, unlocked_steady}
use Rattle.plain_book.proofs.Waiting.{HasOutputs, IsWaiting, is_scheduled_activation, sooner}
use Rattle.plain_book.proofs.Waiting.{taken_back, waits, waits_before}

-- ---- what is there of options

or_some : {X : Type 0} (a b : Option X) → IsSome a → IsSome (option_or a b)
or_some None b is = absurd (false≢true is)
or_some (Some x) b is = refl

pub some_first : {X : Type 0} (a b c : Option X) → IsSome a → option_or a b ≡ option_or a c
some_first a b c is = option_or-Some a b is ∙ sym (option_or-Some a c is)

-- ---- the entries of one call

change_there : (s : SetupParts) (entries : List Entry) (claims tick offset o t : ℕ)
    (action changes : List OutputChangeParts) → frame_key tick offset ≤ t
    → list_any (λ c. eqb c.output o) changes ≡ true
    → IsSome (selected (map (change_entry s entries claims tick offset action) changes) o t)
change_there s entries claims tick offset o t action [] le named = absurd (false≢true named)
change_there s entries claims tick offset o t action (c ∷ changes) le named =
    let e : Entry = change_entry s entries claims tick offset action c in
    let rest : Option (List Cell) =
    selected (map (change_entry s entries claims tick offset action) changes) o t in
    elim (cases_Bool (list_any (λ (x : OutputChangeParts). eqb x.output o) changes)) [
      | inl later ↦
          or_some rest (row_where (rules due o t e) e)
          (change_there s entries claims tick offset o t action changes le later)
      | inr none ↦
          let here : eqb c.output o ≡ true =
          or_first (eqb c.output o)
          (list_any (λ (x : OutputChangeParts). eqb x.output o) changes) named none in
          rw (here, le-ltb t (frame_key tick offset) le) (covered rest (Some e.row) refl)
    ]

pub call_there : (s : SetupParts) (before : List JournalCall) (entries : List Entry)
    (at tick offset o t : ℕ)
    (request : Request) → is_activation request ≡ true → names_output o request ≡ true → frame_key tick offset ≤ t
    → IsSome (selected (request_entries s before entries at tick offset request) o t)
call_there s before entries at tick offset o t (Activate when action) is named le =
    change_there s entries at tick offset o t action action le named
call_there s before entries at tick offset o t (Delete id) is named le = absurd (false≢true is)
call_there s before entries at tick offset o t Active is named le = absurd (false≢true is)
call_there s before entries at tick offset o t Pending is named le = absurd (false≢true is)

pub call_out : (s : SetupParts) (before : List JournalCall) (entries : List Entry)
    (at tick offset o t : ℕ)
    (request : Request) → is_activation request ≡ true → (names_output o request ≡ true → t < frame_key tick offset)
    → selected (request_entries s before entries at tick offset request) o t ≡ None
call_out s before entries at tick offset o t (Activate when action) is late =
    elim (cases_Bool (list_any (λ (x : OutputChangeParts). eqb x.output o) action)) [
      | inl named ↦
          none_yet (map (change_entry s entries at tick offset action) action) o t (frame_key tick offset)
          (all_map (λ (e : Entry). due e ≡ frame_key tick offset) (change_entry s entries at tick offset action) action
          (λ x i. refl)) (late named)
      | inr other ↦
          none_named (map (change_entry s entries at tick offset action) action) o t
          (all_map (λ (e : Entry). eqb e.output o ≡ false) (change_entry s entries at tick offset action)
          action (not_any (λ (x : OutputChangeParts). eqb x.output o) action other))
    ]
call_out s before entries at tick offset o t (Delete id) is late = absurd (false≢true is)
call_out s before entries at tick offset o t Active is late = absurd (false≢true is)
call_out s before entries at tick offset o t Pending is late = absurd (false≢true is)

-- ---- the entries of some calls

abbrev pub made_by : SetupParts → (JournalCall → Bool) → List JournalCall → JournalCall → List Entry
made_by s keep before call =
    if keep call then call_entries s before (entries_of s before) call else []

pub part_more : (s : SetupParts) (keep : JournalCall → Bool) (before calls : List JournalCall)
    (call : JournalCall)
    → entries_where s keep before (calls ++ call ∷ [])
    ≡ entries_where s keep before calls ++ made_by s keep (before ++ calls) call
part_more s keep before [] call =
    append-nil (made_by s keep before call)
    ∙ ap (λ (j : List JournalCall). made_by s keep j call) (sym (append-nil before))
part_more s keep before (c ∷ calls) call =
    ap (λ (es : List Entry). made_by s keep before c ++ es)
    (part_more s keep (before ++ c ∷ []) calls call
    ∙ ap (λ (j : List JournalCall).
    entries_where s keep (before ++ c ∷ []) calls ++ made_by s keep j call)
    (append_assoc before (c ∷ []) calls))
    ∙ sym (append_assoc (made_by s keep before c) (entries_where s keep (before ++ c ∷ []) calls)
    (made_by s keep (before ++ c ∷ calls) call))

made_none : (s : SetupParts) (keep : JournalCall → Bool) (before : List JournalCall)
    (call : JournalCall) (o t : ℕ)
    → (keep call ≡ true → selected (call_entries s before (entries_of s before) call) o t ≡ None)
    → selected (made_by s keep before call) o t ≡ None
made_none s keep before call o t none = elim (cases_Bool (keep call)) [
  | inl kept ↦ rw kept (none kept)
  | inr out ↦ rw out refl
]

-- of calls that count later, or do not name the output, nothing is selected
none_due : (s : SetupParts) (keep : JournalCall → Bool) (o t : ℕ) (before calls : List JournalCall)
    → ((x : JournalCall) → IsIn x calls → keep x ≡ true → is_activation x.request ≡ true)
    → ((x : JournalCall) → IsIn x calls → keep x ≡ true → names_output o x.request ≡ true
    → t < call_due x)
    → selected (entries_where s keep before calls) o t ≡ None
none_due s keep o t before [] acts late = refl
none_due s keep o t before (c ∷ calls) acts late =
    let first =
    made_none s keep before c o t
    (λ kept. call_out s before (entries_of s before) c.at c.tick c.offset o t c.request
    (acts c (inl refl) kept) (late c (inl refl) kept)) in
    let rest =
    none_due s keep o t (before ++ c ∷ []) calls (λ x i. acts x (inr i)) (λ x i. late x (inr i)) in
    selected-append due (made_by s keep before c)
    (entries_where s keep (before ++ c ∷ []) calls) o t
    ∙ ap (λ (r : Option (List Cell)). option_or r (selected (made_by s keep before c) o t)) rest
    ∙ first

-- ---- the row of a pending call that counts

abbrev Rules : SetupParts → List JournalCall → Type 0
Rules s journal =
    (keep : JournalCall → Bool) (c o t : ℕ) (p : JournalCall)
    → ((x : JournalCall) → IsIn x journal → x.at ≤ c) → Holds s journal c o p → keep p ≡ true
    → call_due p ≤ t
    → selected (entries_where s keep [] journal) o t ≡ selected (entries_of s journal) o t

-- a deletion after a pending call that stays pending does not take back an output of it
pub deletion_out : (s : SetupParts) (before : List JournalCall) (call : JournalCall) (id : ℕ)
    (found : JournalCall) (c o t : ℕ) (p : JournalCall) → HasOutputs s
    → IsLegalJournal s call.at before → IsDeletion s before call id found → call.at ≤ c
    → Holds s before c o p → is_deleted (before ++ call ∷ []) p.id ≡ false
    → selected (call_entries s before (entries_of s before) call) o t ≡ None
deletion_out s before call id found c o t p some legal is le h stands =
    let entries = entries_of s before in
    let back = taken_back s before call id found is in
    elim (cases_Bool (list_any (λ (x : OutputChangeParts). eqb x.output o)
    (action_of found.request))) [
      | inr other ↦
          ap (λ (es : List Entry). selected es o t) (deleted_entries s before call id found is)
          ∙ none_named (map (kept_entry s entries call.at call.tick call.offset) (action_of found.request)) o t
          (all_map (λ (e : Entry). eqb e.output o ≡ false) (kept_entry s entries call.at call.tick call.offset)
          (action_of found.request)
          (not_any (λ (x : OutputChangeParts). eqb x.output o) (action_of found.request) other))
      | inl named ↦
          let same : found ≡ p =
          alone s call.at before some legal call.at o found p (in_time s call.at before legal)
          (record { member = back.0; pending = back.1; named = named }) (record {
            member = h.member;
            pending = sooner s before call.at c p some le h.pending;
            named = h.named;
          }) in
          let its : id ≡ p.id = sym back.2 ∙ ap (λ (x : JournalCall). x.id) same in
          let out =
          (or_parts (is_deleted before p.id)
          (list_any (λ (x : JournalCall). deletes p.id x.request) (call ∷ []))
          (sym (list_any-append (λ (x : JournalCall). deletes p.id x.request) before
          (call ∷ [])) ∙ stands)).1 in
          let no_hit : deletes p.id call.request ≡ false =
          (or_parts (deletes p.id call.request) false out).0 in
          absurd (false≢true (sym no_hit ∙ ap (deletes p.id) is.asks ∙ eq-eqb id p.id its))
    ]

more_rules : (s : SetupParts) (before : List JournalCall) (call : JournalCall) → HasOutputs s
    → IsLegalJournal s call.at before → IsAccepted s before call → Rules s before
    → Rules s (before ++ call ∷ [])
more_rules s before call some legal is so_far keep c o t p within h kept at_last =
    let new : List Entry = call_entries s before (entries_of s before) call in
    let own : List Entry = made_by s keep before call in
    let le : call.at ≤ c = within call (in_last before call) in
    let parts : selected (entries_where s keep [] (before ++ call ∷ [])) o t
    ≡ option_or (selected own o t) (selected (entries_where s keep [] before) o t) =
    ap (λ (es : List Entry). selected es o t) (part_more s keep [] before call)
    ∙ selected-append due (entries_where s keep [] before) own o t in
    let whole : selected (entries_of s (before ++ call ∷ [])) o t
    ≡ option_or (selected new o t) (selected (entries_of s before) o t) =
    ap (λ (es : List Entry). selected es o t) (entries_more s before call)
    ∙ selected-append due (entries_of s before) new o t in
    elim (in_more p before call h.member) [
      | inr same ↦
          let kept_call : keep call ≡ true = ap keep same ∙ kept in
          let its : own ≡ new = rw kept_call refl in
          let named : names_output o call.request ≡ true =
          ap (λ (x : JournalCall). names_output o x.request) same ∙ h.named in
          let act : is_activation call.request ≡ true =
          is_scheduled_activation call.request
          (subst (λ (x : JournalCall). IsWaiting s (before ++ call ∷ []) c x) (sym same)
          h.pending).scheduled in
          let tick : call_due call ≡ call_due p = ap call_due same in
          let there : IsSome (selected new o t) =
          call_there s before (entries_of s before) call.at call.tick call.offset o t call.request act named
          (omega (arith, tick, at_last)) in
          parts
          ∙ ap (λ (es : List Entry).
          option_or (selected es o t) (selected (entries_where s keep [] before) o t)) its
          ∙ some_first (selected new o t) (selected (entries_where s keep [] before) o t)
          (selected (entries_of s before) o t) there ∙ sym whole
      | inl old ↦
          let h_before : Holds s before c o p = record {
            member = old;
            pending = waits_before s before call c p h.pending;
            named = h.named;
          } in
          let none : selected new o t ≡ None = elim (cases s before call is) [
            | inl a ↦
                call_out s before (entries_of s before) call.at call.tick call.offset o t call.request
                (ap is_activation a.2.asks)
                (λ named. absurd (none_held s before call c o p some is le named h_before))
            | inr d ↦
                deletion_out s before call d.0 d.1 c o t p some legal d.2 le h_before
                h.pending.stands
          ] in
          let none_own : selected own o t ≡ None = made_none s keep before call o t (λ k. none) in
          parts
          ∙ ap (λ (r : Option (List Cell)).
          option_or r (selected (entries_where s keep [] before) o t)) none_own
          ∙ so_far keep c o t p
          (λ x i. within x (in_left x before (call ∷ []) i)) h_before kept at_last
          ∙ sym (whole
          ∙ ap (λ (r : Option (List Cell)). option_or r (selected (entries_of s before) o t)) none)
    ]

-- from its key on a pending call rules its outputs
pending_rules : (s : SetupParts) (m : ℕ) (journal : List JournalCall) → HasOutputs s
    → IsLegalJournal s m journal
    → Rules s journal
pending_rules s m journal some legal =
    legal_by s (Rules s) (λ keep c o t p within h kept at_last. absurd h.member)
    (λ before call legal is so_far. more_rules s before call some legal is so_far) m journal legal

-- ---- the rows

none_range : (s : SetupParts) (journal : List JournalCall) (c o t a n : ℕ) → o < a
    → selected (map (carried_row s journal c) (range_with_len a n)) o t ≡ None
none_range s journal c o t a zero lt = refl
none_range s journal c o t a (suc n) lt =
    rw (
      none_range s journal c o t (a + 1) n (omega (arith, lt)),
      ne_eqb a o (λ e. omega (arith, e, lt)),
    ) refl

range_row : (s : SetupParts) (journal : List JournalCall) (c o t a n : ℕ) → a ≤ o → o < a + n
    → begin s c ≤ t
    → selected (map (carried_row s journal c) (range_with_len a n)) o t
    ≡ Some (row_from s (entries_of s journal) o c)
range_row s journal c o t a zero low high since = absurd (omega (arith, low, high))
range_row s journal c o t a (suc n) low high since = elim (cases_lt a o) [
  | inl below ↦
      rw (range_row s journal c o t (a + 1) n (omega (arith, below)) (omega (arith, high)) since)
      refl
  | inr at ↦
      let same : a ≡ o = omega (arith, low, at) in
      rw (
        none_range s journal c o t (a + 1) n (omega (arith, same)),
        eq-eqb a o same,
        le-ltb t (begin s c) since,
      )
      (ap (λ (k : ℕ). Some (row_from s (entries_of s journal) k c)) same)
]

-- ---- the whole

rows_alone : (s : SetupParts) (journal : List JournalCall) (c o t : ℕ) → o < length s.device.outputs
    → begin s c ≤ t → selected (entries_where s (is_pending s journal c) [] journal) o t ≡ None
    → IsSome (selected (entries_of s journal) o (begin s c))
    → selected (carried s journal c) o t ≡ selected (entries_of s journal) o (begin s c)
rows_alone s journal c o t lt since none there =
    let rows : List Entry =
    map (carried_row s journal c) (range_with_len 0 (length s.device.outputs)) in
    let part : List Entry = entries_where s (is_pending s journal c) [] journal in
    selected-append due rows part o t
    ∙ ap (λ (r : Option (List Cell)). option_or r (selected rows o t)) none
    ∙ range_row s journal c o t 0 (length s.device.outputs) (omega arith) (omega (arith, lt)) since
    ∙ some_is (selected (entries_of s journal) o (begin s c)) [] there

-- THE LAW: what a new table starts from at a number of claims selects, from the first moment that
-- has not begun on, what the journal's entries select
pub carried_rules : (s : SetupParts) (c : ℕ) (journal : List JournalCall) (o t : ℕ) → IsSetup s
    → HasOutputs s → IsLegalJournal s c journal → o < length s.device.outputs → begin s c ≤ t
    → selected (carried s journal c) o t ≡ selected (entries_of s journal) o t
carried_rules s c journal o t checked some legal lt since =
    let keep = is_pending s journal c in
    let cover = (entries_are s c journal checked some legal).cover in
    let there : IsSome (selected (entries_of s journal) o (begin s c)) =
    cover o (begin s c) lt (omega arith) in
    let acts : (x : JournalCall) → IsIn x journal → keep x ≡ true → is_activation x.request ≡ true =
    λ x i k. is_scheduled_activation x.request (waits s journal c x k).scheduled in
    let holds : (x : JournalCall) → IsIn x journal → keep x ≡ true → names_output o x.request ≡ true
    → Holds s journal c o x =
    λ x i k named. record { member = i; pending = waits s journal c x k; named = named } in
    elim (cases_Bool (is_locked s journal c o)) [
      | inr free ↦
          rows_alone s journal c o t lt since
          (none_due s keep o t [] journal acts
          (λ x i k named.
          absurd (false≢true (sym free ∙ holds_locked s journal c o x (holds x i k named))))) there
          ∙ sym (unlocked_steady s c journal o t checked some legal free since)
      | inl locked ↦
          let f =
          any_from (λ (x : JournalCall). names_output o x.request) (pending_of s journal c)
          locked in
          let g = from_filter keep f.item journal f.member in
          let held = holds f.item g.0 g.1 f.passes in
          let only : (x : JournalCall) → Holds s journal c o x → f.item ≡ x =
          λ x h. alone s c journal some legal c o f.item x (in_time s c journal legal) held h in
          elim (cases_lt t (call_due f.item)) [
            | inl early ↦
                rows_alone s journal c o t lt since
                (none_due s keep o t [] journal acts
                (λ x i k named.
                let e : call_due f.item ≡ call_due x =
                ap call_due (only x (holds x i k named)) in
                omega (arith, e, early))) there
                ∙ sym (steady s c journal checked some legal c o t (in_time s c journal legal) since
                (λ x h.
                let e : call_due f.item ≡ call_due x = ap call_due (only x h) in
                omega (arith, e, early)))
            | inr at_last ↦
                let rows : List Entry =
                map (carried_row s journal c) (range_with_len 0 (length s.device.outputs)) in
                let part : List Entry = entries_where s keep [] journal in
                let same : selected part o t ≡ selected (entries_of s journal) o t =
                pending_rules s c journal some legal keep c o t f.item
                (in_time s c journal legal) held g.1 at_last in
                let some_part : IsSome (selected part o t) =
                subst (λ (r : Option (List Cell)). IsSome r) (sym same)
                (cover o t lt (omega (arith, since))) in
                selected-append due rows part o t
                ∙ option_or-Some (selected part o t) (selected rows o t) some_part ∙ same
          ]
    ]
