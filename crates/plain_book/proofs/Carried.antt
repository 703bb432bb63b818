-- What is carried: how a book finds it, and what holds of it.
use Rattle.std.proofs.Common.{◌≡◌, ℕ, zero, suc, ◌+◌, ◌*◌, ◌<◌, ◌≤◌, Bool, true, false, eqb, List, []}
use Rattle.std.proofs.Common.{◌∷◌, ◌++◌, length, length-append, get_or, take, map, Option, Some, None, inl, inr, refl}
use Rattle.std.proofs.Common.{sym, ap, subst, ◌∙◌, append_assoc, arith, ◌⊎◌}
use Rattle.std.specs.Prelude.{◌&&◌, nat_lt, not, filter, IsSome, if◌then◌else◌, slice_get, All, AllPairs}
use Rattle.std.specs.List.{AllByRecursion, list_any, range_with_len}
use Rattle.std.specs.Option.{option_or, unwrap_or}
use Rattle.std.proofs.lemmas.Bool.{cases_Bool, eq-eqb, eqb-true, false≢true, not-true, le-ltb, lt-ltb, ltb-true, false_from_ne_true}
use Rattle.std.proofs.lemmas.List.{append-nil, length-map, take-append-le, take_all, take_more}
use Rattle.std.proofs.lemmas.Option.{slice_get_within, slice_get_read, get_or_from_slice_get}
use Rattle.std.proofs.lemmas.List.Elements.{All-from_recursion, recursion_from_All}
use Rattle.std.proofs.lemmas.List.FromFn.{length-map-range_with_len}
use Rattle.std.proofs.lemmas.List.Sums.{sum_by-cons}
use Rattle.list_laws.proofs.Items.{slice_get-push}
use Rattle.map_entry.specs.Action.{OutputChangeParts, applied}
use Rattle.map_entry.specs.Entry.{IsEntryOk, due, entry_of, row_where, rules, selected}
use Rattle.map_entry.specs.Setup.{IsSetup, SetupParts}
use Rattle.map_entry.specs.Tick.{frame_key}
use Rattle.map_entry.specs.declared.cell.Cell.{Cell}
use Rattle.map_entry.specs.declared.entry.Entry.{Entry}
use Rattle.map_entry.proofs.Selection.{selected-append}
use Rattle.plain_book.specs.Book.{unknown_by}
use Rattle.book_words.specs.Calls.{action_of, call_due, is_activation, is_scheduled, names_output}
use Rattle.plain_book.specs.Carry.{carried, carried_row, entries_where, first_entry, held_entry, is_waiting, waiting_entries}
use Rattle.plain_book.specs.Journal.{call_entries, change_entry, entries_from, entries_of, request_entries, row_from}
use Rattle.plain_book.specs.Legal.{IsAccepted, IsLegalJournal}
use Rattle.plain_book.specs.Pending.{is_deleted, is_pending, pending_of}
use Rattle.plain_book.specs.Desk.{IsDesk, BookStateParts, from_claims}
use Rattle.plain_book.specs.Places.{outputs_held, places_kept}
use Rattle.book_words.specs.Replies.{item_of}
use Rattle.plain_book.specs.Time.{begin, tick_after}
use Rattle.book_words.specs.declared.calls.JournalCall.{JournalCall}
use Rattle.book_words.specs.declared.replies.PendingItem.{PendingItem}
use Rattle.book_words.specs.declared.requests.Request.TheVariants.{Activate, Delete, Active}
use Rattle.book_words.specs.declared.requests.Request.TheVariants.{Pending}
use Rattle.book_words.specs.declared.requests.Request.{Request}
use Rattle.plain_book.proofs.Accepted.{cases}
use Rattle.plain_book.proofs.Alike.{row_alike}
use Rattle.plain_book.proofs.Deleting.{all_known}
use Rattle.plain_book.proofs.Carrying.{carried_rules, call_out, call_there, deletion_out, made_by, part_more, some_first}
use Rattle.plain_book.proofs.Entries.{entries_more, entries_none}
use Rattle.plain_book.proofs.Lists.{IsIn, all_append, all_from_in, all_in, any_from, any_in, from_filter, in_filter, in_last, in_left, in_more}
use Rattle.plain_book.proofs.Locks.{Holds, none_held}
use Rattle.plain_book.proofs.Looking.{any_map}
use Rattle.plain_book.proofs.Prefixes.{legal_by}
use Rattle.plain_book.proofs.Grains.{has_frames}
use Rattle.plain_book.proofs.Keeping.{has_outputs, legal_at}
use Rattle.plain_book.proofs.Places.{kept_few}
use Rattle.plain_book.proofs.Sound.{all_map, row_from_is, sound}
use Rattle.plain_book.proofs.Steady.{in_time, none_named, not_any, or_first}
use Rattle.plain_book.proofs.Waiting.{HasOutputs, begin_rises, IsWaiting, is_scheduled_activation, sooner, waiting, waits, waits_before}

-- ---- the row of a call's entry

none_of : (s : SetupParts) (entries : List Entry) (claims tick offset o t : ℕ)
    (action changes : List OutputChangeParts)
    → list_any (λ c. eqb c.output o) changes ≡ false
    → selected (map (change_entry s entries claims tick offset action) changes) o t ≡ None
none_of s entries claims tick offset o t action changes none =
    none_named (map (change_entry s entries claims tick offset action) changes) o t
    (all_map (λ (e : Entry). eqb e.output o ≡ false) (change_entry s entries claims tick offset action)
    changes (not_any (λ (x : OutputChangeParts). eqb x.output o) changes none))

change_row : (s : SetupParts) (entries : List Entry) (claims tick offset o t : ℕ)
    (action changes : List OutputChangeParts) → frame_key tick offset ≤ t
    → list_any (λ c. eqb c.output o) changes ≡ true
    → selected (map (change_entry s entries claims tick offset action) changes) o t
    ≡ Some (applied (row_from s entries o claims) action o)
change_row s entries claims tick offset o t action [] le named = absurd (false≢true named)
change_row s entries claims tick offset o t action (c ∷ changes) le named =
    let e : Entry = change_entry s entries claims tick offset action c in
    elim (cases_Bool (list_any (λ (x : OutputChangeParts). eqb x.output o) changes)) [
      | inl later ↦
          rw (change_row s entries claims tick offset o t action changes le later) refl
      | inr none ↦
          let here : eqb c.output o ≡ true =
          or_first (eqb c.output o)
          (list_any (λ (x : OutputChangeParts). eqb x.output o) changes) named none in
          let same : c.output ≡ o = eqb-true c.output o here in
          let rest : selected (map (change_entry s entries claims tick offset action) changes) o t ≡ None =
          none_of s entries claims tick offset o t action changes none in
          rw (rest, here, le-ltb t (frame_key tick offset) le)
          (ap (λ (k : ℕ). Some (applied (row_from s entries k claims) action k)) same)
    ]

-- ---- a pending call rules its outputs from its tick on

-- what its entries select for an output is what the journal's do
abbrev RulesItself : SetupParts → List JournalCall → Type 0
RulesItself s journal =
    (k c o t : ℕ) (p : JournalCall)
    → slice_get journal k ≡ Some p
    → ((x : JournalCall) → IsIn x journal → x.at ≤ c) → Holds s journal c o p → call_due p ≤ t
    → selected (entries_of s journal) o t
    ≡ selected (call_entries s (take k journal) (entries_of s (take k journal)) p) o t

in_there : {X : Type 0} (xs : List X) (k : ℕ) (x : X) → slice_get xs k ≡ Some x → IsIn x xs
in_there [] k x e = absurd cc
in_there (y ∷ ys) zero x e = let same : y ≡ x = cc in inl same
in_there (y ∷ ys) (suc k) x e = inr (in_there ys k x e)

some_is_first : {X : Type 0} (a b : Option X) → IsSome a → option_or a b ≡ a
some_is_first None b is = absurd (false≢true is)
some_is_first (Some x) b is = refl

more_itself : (s : SetupParts) (before : List JournalCall) (call : JournalCall) → HasOutputs s
    → IsLegalJournal s call.at before → IsAccepted s before call → RulesItself s before
    → RulesItself s (before ++ call ∷ [])
more_itself s before call some legal is so_far k c o t p at within h since =
    let new : List Entry = call_entries s before (entries_of s before) call in
    let le : call.at ≤ c = within call (in_last before call) in
    let whole : selected (entries_of s (before ++ call ∷ [])) o t
    ≡ option_or (selected new o t) (selected (entries_of s before) o t) =
    ap (λ (es : List Entry). selected es o t) (entries_more s before call)
    ∙ selected-append due (entries_of s before) new o t in
    elim (slice_get-push before call k p at) [
      | inr last ↦
          let named : names_output o call.request ≡ true =
          ap (λ (x : JournalCall). names_output o x.request) last.1 ∙ h.named in
          let act : is_activation call.request ≡ true =
          is_scheduled_activation call.request
          (subst (λ (x : JournalCall). IsWaiting s (before ++ call ∷ []) c x) (sym last.1)
          h.pending).scheduled in
          let tick : call_due call ≡ call_due p = ap call_due last.1 in
          let there : IsSome (selected new o t) =
          call_there s before (entries_of s before) call.at call.tick call.offset o t call.request act named
          (omega (arith, tick, since)) in
          let front : take k (before ++ call ∷ []) ≡ before =
          ap (λ (i : ℕ). take i (before ++ call ∷ [])) last.0
          ∙ take-append-le (length before) before (call ∷ []) (omega arith)
          ∙ take_all (length before) before (omega arith) in
          whole ∙ some_is_first (selected new o t) (selected (entries_of s before) o t) there
          ∙ ap (λ (x : JournalCall). selected (call_entries s before (entries_of s before) x) o t)
          last.1
          ∙ sym (ap (λ (j : List JournalCall).
          selected (call_entries s j (entries_of s j) p) o t) front)
      | inl old ↦
          let member : IsIn p before = in_there before k p old.0 in
          let h_before : Holds s before c o p = record {
            member = member;
            pending = waits_before s before call c p h.pending;
            named = h.named;
          } in
          let none : selected new o t ≡ None = elim (cases s before call is) [
            | inl a ↦
                call_out s before (entries_of s before) call.at call.tick call.offset o t call.request
                (ap is_activation a.2.asks)
                (λ named. absurd (none_held s before call c o p some is le named h_before))
            | inr d ↦
                deletion_out s before call d.0 d.1 c o t p some legal d.2 le h_before
                h.pending.stands
          ] in
          let front : take k (before ++ call ∷ []) ≡ take k before =
          take-append-le k before (call ∷ []) (let lt = old.1 in omega (arith, lt)) in
          whole ∙ ap (λ (r : Option (List Cell)). option_or r (selected (entries_of s before) o t))
          none
          ∙ so_far k c o t p old.0 (λ x i. within x (in_left x before (call ∷ []) i)) h_before since
          ∙ sym (ap (λ (j : List JournalCall).
          selected (call_entries s j (entries_of s j) p) o t) front)
    ]

rules_itself : (s : SetupParts) (m : ℕ) (journal : List JournalCall) → HasOutputs s
    → IsLegalJournal s m journal → RulesItself s journal
rules_itself s m journal some legal =
    legal_by s (RulesItself s) (λ k c o t p at within h since. absurd cc)
    (λ before call legal is so_far. more_itself s before call some legal is so_far) m journal legal

-- ---- what a book finds for a call

map_in : {X Y : Type 0} (f g : X → Y) (xs : List X) → ((x : X) → IsIn x xs → f x ≡ g x)
    → map f xs ≡ map g xs
map_in f g [] same = refl
map_in f g (x ∷ xs) same = rw (same x (inl refl), map_in f g xs (λ y i. same y (inr i))) refl

held_request : (s : SetupParts) (before : List JournalCall) (es entries : List Entry) (at tick offset : ℕ)
    (request : Request) → is_scheduled request ≡ true
    → ((c : OutputChangeParts) → IsIn c (action_of request)
    → selected entries c.output (frame_key tick offset)
    ≡ selected (request_entries s before es at tick offset request) c.output
    (frame_key tick offset))
    → map (held_entry entries at tick offset) (action_of request)
    ≡ request_entries s before es at tick offset request
held_request s before es entries at tick offset (Activate when action) is same =
    map_in (held_entry entries at tick offset) (change_entry s es at tick offset action) action
    (λ c i.
    let named : list_any (λ x. eqb x.output c.output) action ≡ true =
    any_in (λ (x : OutputChangeParts). eqb x.output c.output) c action i
    (eq-eqb c.output c.output refl) in
    ap (λ (r : Option (List Cell)). entry_of c.output tick offset (unwrap_or r []) at)
    (same c i ∙ change_row s es at tick offset c.output (frame_key tick offset) action action (omega arith) named))
held_request s before es entries at tick offset (Delete id) is same = absurd (false≢true is)
held_request s before es entries at tick offset Active is same = absurd (false≢true is)
held_request s before es entries at tick offset Pending is same = absurd (false≢true is)

named_in : (r : Request) (c : OutputChangeParts) → IsIn c (action_of r)
    → names_output c.output r ≡ true
named_in r c i =
    any_in (λ (x : OutputChangeParts). eqb x.output c.output) c (action_of r) i
    (eq-eqb c.output c.output refl)

held_call : (s : SetupParts) (m claims k : ℕ) (journal : List JournalCall) (entries : List Entry)
    (p : JournalCall) → HasOutputs s → IsLegalJournal s m journal → m ≤ claims
    → slice_get journal k ≡ Some p → is_pending s journal claims p ≡ true
    → ((c : OutputChangeParts) → IsIn c (action_of p.request)
    → selected entries c.output (call_due p) ≡ selected (entries_of s journal) c.output (call_due p))
    → map (held_entry entries p.at p.tick p.offset) (action_of p.request)
    ≡ call_entries s (take k journal) (entries_of s (take k journal)) p
held_call s m claims k journal entries p some legal le at pending alike =
    let w = waits s journal claims p pending in
    held_request s (take k journal) (entries_of s (take k journal)) entries p.at p.tick p.offset p.request
    w.scheduled
    (λ c i. alike c i
    ∙ rules_itself s m journal some legal k claims c.output (call_due p) p at
    (λ x j. let low = in_time s m journal legal x j in omega (arith, low, le))
    (record { member = in_there journal k p at; pending = w; named = named_in p.request c i })
    (omega arith))

same_and : (a b c d : Bool) → (a ≡ true → b ≡ true → c ≡ d) → (a && (b && c)) ≡ (a && (b && d))
same_and false b c d same = refl
same_and true false c d same = refl
same_and true true c d same = same refl refl

abbrev is_listed : ℕ → List PendingItem → Bool
is_listed id pending = list_any (λ item. eqb item.id id) pending

listed_call : (journal : List JournalCall) (s : SetupParts) (seen id : ℕ)
    → is_listed id (map item_of (pending_of s journal seen))
    ≡ list_any (λ call. eqb call.id id) (pending_of s journal seen)
listed_call journal s seen id =
    any_map (λ (i : PendingItem). eqb i.id id) item_of (pending_of s journal seen)

listed_stands : (s : SetupParts) (journal : List JournalCall) (seen claims : ℕ) (call : JournalCall)
    → HasOutputs s → seen ≤ claims → IsIn call journal → is_scheduled call.request ≡ true
    → nat_lt (begin s claims) (call_due call) ≡ true
    → list_any (λ x. eqb x.id call.id) (pending_of s journal seen)
    ≡ not (is_deleted journal call.id)
listed_stands s journal seen claims call some le member timed late =
    elim (cases_Bool (is_deleted journal call.id)) [
      | inl gone ↦
          rw gone
          (false_from_ne_true (list_any (λ (x : JournalCall). eqb x.id call.id)
          (pending_of s journal seen))
          (λ any.
          let f = any_from (λ (x : JournalCall). eqb x.id call.id) (pending_of s journal seen) any in
          let g = from_filter (is_pending s journal seen) f.item journal f.member in
          let w = waits s journal seen f.item g.1 in
          let same : f.item.id ≡ call.id = eqb-true f.item.id call.id f.passes in
          false≢true (sym (sym (ap (is_deleted journal) same) ∙ w.stands) ∙ gone)))
      | inr stands ↦
          let w : IsWaiting s journal claims call = record {
            scheduled = timed;
            later = ltb-true (begin s claims) (call_due call) late;
            stands = stands;
          } in
          let p = waiting s journal seen call (sooner s journal seen claims call some le w) in
          rw stands
          (any_in (λ (x : JournalCall). eqb x.id call.id) call (pending_of s journal seen)
          (in_filter (is_pending s journal seen) call journal member p)
          (eq-eqb call.id call.id refl))
    ]

waiting_is : (s : SetupParts) (journal : List JournalCall) (seen claims : ℕ)
    (pending : List PendingItem) (call : JournalCall)
    → HasOutputs s → seen ≤ claims → pending ≡ map item_of (pending_of s journal seen)
    → IsIn call journal
    → is_waiting (begin s claims) pending call ≡ is_pending s journal claims call
waiting_is s journal seen claims pending call some le are member =
    same_and (is_scheduled call.request) (nat_lt (begin s claims) (call_due call))
    (is_listed call.id pending) (not (is_deleted journal call.id))
    (λ timed late.
    ap (is_listed call.id) are ∙ listed_call journal s seen call.id
    ∙ listed_stands s journal seen claims call some le member timed late)

chosen : (a b : Bool) (xs ys : List Entry) → a ≡ b → (b ≡ true → xs ≡ ys)
    → (if a then xs else []) ≡ (if b then ys else [])
chosen a true xs ys is same = rw is (same refl)
chosen a false xs ys is same = rw is refl

-- it is what the call made, where it is pending
pub found_call : (s : SetupParts) (m claims k : ℕ) (journal : List JournalCall)
    (entries : List Entry) (pending : List PendingItem) (call : JournalCall) → HasOutputs s
    → IsLegalJournal s m journal → m ≤ claims → slice_get journal k ≡ Some call
    → pending ≡ map item_of (pending_of s journal m)
    → ((c : OutputChangeParts) → IsIn c (action_of call.request)
    → begin s claims ≤ call_due call
    → selected entries c.output (call_due call)
    ≡ selected (entries_of s journal) c.output (call_due call))
    → waiting_entries entries pending (begin s claims) call
    ≡ made_by s (is_pending s journal claims) (take k journal) call
found_call s m claims k journal entries pending call some legal le at are alike =
    chosen (is_waiting (begin s claims) pending call) (is_pending s journal claims call)
    (map (held_entry entries call.at call.tick call.offset) (action_of call.request))
    (call_entries s (take k journal) (entries_of s (take k journal)) call)
    (waiting_is s journal m claims pending call some le are (in_there journal k call at))
    (λ is.
    let w = waits s journal claims call is in
    held_call s m claims k journal entries call some legal le at is
    (λ c i. alike c i (let late = w.later in omega (arith, late))))

-- so one call more is found
pub found_more : (s : SetupParts) (m claims k : ℕ) (journal : List JournalCall)
    (entries : List Entry) (pending : List PendingItem) (call : JournalCall) → HasOutputs s
    → IsLegalJournal s m journal → m ≤ claims → slice_get journal k ≡ Some call
    → pending ≡ map item_of (pending_of s journal m)
    → ((c : OutputChangeParts) → IsIn c (action_of call.request)
    → begin s claims ≤ call_due call
    → selected entries c.output (call_due call)
    ≡ selected (entries_of s journal) c.output (call_due call))
    → entries_where s (is_pending s journal claims) [] (take k journal)
    ++ waiting_entries entries pending (begin s claims) call
    ≡ entries_where s (is_pending s journal claims) [] (take (k + 1) journal)
found_more s m claims k journal entries pending call some legal le at are alike =
    let within : k < length journal = slice_get_within journal k call at in
    let next : take (k + 1) journal ≡ take k journal ++ get_or journal k call ∷ [] =
    take_more journal k call within in
    let same : get_or journal k call ≡ call = get_or_from_slice_get journal k call call at in
    ap (λ (es : List Entry). entries_where s (is_pending s journal claims) [] (take k journal) ++ es)
    (found_call s m claims k journal entries pending call some legal le at are alike)
    ∙ sym (part_more s (is_pending s journal claims) [] (take k journal) call)
    ∙ ap (entries_where s (is_pending s journal claims) [])
    (ap (λ (c : JournalCall). take k journal ++ c ∷ []) (sym same) ∙ sym next)

-- ---- each entry that is carried on is one of the journal's

in_from : (s : SetupParts) (before : List JournalCall) (es : List Entry) (calls : List JournalCall)
    (e : Entry) → IsIn e es → IsIn e (entries_from s before es calls)
in_from s before es [] e i = i
in_from s before es (c ∷ calls) e i =
    in_from s (before ++ c ∷ []) (es ++ call_entries s before es c) calls e
    (in_left e es (call_entries s before es c) i)

in_right : {X : Type 0} (x : X) (xs ys : List X) → IsIn x ys → IsIn x (xs ++ ys)
in_right x [] ys i = i
in_right x (y ∷ xs) ys i = inr (in_right x xs ys i)

in_either : {X : Type 0} (x : X) (xs ys : List X) → IsIn x (xs ++ ys) → IsIn x xs ⊎ IsIn x ys
in_either x [] ys i = inr i
in_either x (y ∷ xs) ys (inl e) = inl (inl e)
in_either x (y ∷ xs) ys (inr i) = elim (in_either x xs ys i) [
  | inl here ↦ inl (inr here)
  | inr there ↦ inr there
]

in_chosen : (b : Bool) (e : Entry) (xs : List Entry) → IsIn e (if b then xs else []) → IsIn e xs
in_chosen true e xs i = i
in_chosen false e xs i = absurd i

where_in : (s : SetupParts) (keep : JournalCall → Bool) (before calls : List JournalCall)
    (e : Entry) → IsIn e (entries_where s keep before calls)
    → IsIn e (entries_from s before (entries_of s before) calls)
where_in s keep before [] e i = absurd i
where_in s keep before (c ∷ calls) e i =
    elim (in_either e (if keep c then call_entries s before (entries_of s before) c else [])
    (entries_where s keep (before ++ c ∷ []) calls) i) [
      | inl here ↦
          in_from s (before ++ c ∷ [])
          (entries_of s before ++ call_entries s before (entries_of s before) c) calls e
          (in_right e (entries_of s before) (call_entries s before (entries_of s before) c)
          (in_chosen (keep c) e (call_entries s before (entries_of s before) c) here))
      | inr there ↦
          subst (λ (es : List Entry). IsIn e (entries_from s (before ++ c ∷ []) es calls))
          (entries_more s before c)
          (where_in s keep (before ++ c ∷ []) calls e there)
    ]

whole_from : (s : SetupParts) (journal : List JournalCall)
    → entries_from s [] (entries_of s []) journal ≡ entries_of s journal
unfolding entries_of
whole_from s journal = refl

pub all_where : (P : Entry → Type 0) (s : SetupParts) (keep : JournalCall → Bool)
    (journal : List JournalCall) → AllByRecursion P (entries_of s journal)
    → AllByRecursion P (entries_where s keep [] journal)
all_where P s keep journal all =
    all_from_in P (entries_where s keep [] journal)
    (λ e i. all_in P e (entries_of s journal) all
    (subst (λ (es : List Entry). IsIn e es) (whole_from s journal)
    (where_in s keep [] journal e i)))

-- ---- how many they are

act_long : (s : SetupParts) (before : List JournalCall) (es : List Entry) (at tick offset : ℕ)
    (r : Request)
    → is_activation r ≡ true
    → length (request_entries s before es at tick offset r) ≡ length (action_of r)
act_long s before es at tick offset (Activate when action) is =
    length-map action (change_entry s es at tick offset action)
act_long s before es at tick offset (Delete id) is = absurd (false≢true is)
act_long s before es at tick offset Active is = absurd (false≢true is)
act_long s before es at tick offset Pending is = absurd (false≢true is)

kept_more : (x : PendingItem) (xs : List PendingItem)
    → places_kept (x ∷ xs) ≡ length x.action + places_kept xs
kept_more x xs = sum_by-cons (λ (i : PendingItem). length i.action) x xs

where_long : (s : SetupParts) (keep : JournalCall → Bool) (before calls : List JournalCall)
    → ((x : JournalCall) → keep x ≡ true → is_activation x.request ≡ true)
    → length (entries_where s keep before calls) ≡ places_kept (map item_of (filter keep calls))
where_long s keep before [] acts = refl
where_long s keep before (c ∷ calls) acts =
    let rest = where_long s keep (before ++ c ∷ []) calls acts in
    elim (cases_Bool (keep c)) [
      | inl kept ↦
          rw kept
          (omega (
            arith,
            rest,
            length-append (call_entries s before (entries_of s before) c)
                (entries_where s keep (before ++ c ∷ []) calls),
            act_long s before (entries_of s before) c.at c.tick c.offset c.request (acts c kept),
            kept_more (item_of c) (map item_of (filter keep calls)),
          ))
      | inr out ↦ rw out rest
    ]

pub carried_long : (s : SetupParts) (journal : List JournalCall) (claims : ℕ)
    → length (carried s journal claims)
    ≡ length s.device.outputs + places_kept (map item_of (pending_of s journal claims))
carried_long s journal claims =
    omega (
      arith,
      length-append (map (carried_row s journal claims) (range_with_len 0 (length s.device.outputs)))
          (entries_where s (is_pending s journal claims) [] journal),
      length-map-range_with_len (carried_row s journal claims) 0 (length s.device.outputs),
      where_long s (is_pending s journal claims) [] journal
          (λ x k. is_scheduled_activation x.request (waits s journal claims x k).scheduled),
    )

-- ---- the book over what is carried

range_all : (P : Entry → Type 0) (f : ℕ → Entry) (a n : ℕ) → ((o : ℕ) → o < a + n → P (f o))
    → AllByRecursion P (map f (range_with_len a n))
range_all P f a zero each = tt
range_all P f a (suc n) each =
    (each a (omega arith), range_all P f (a + 1) n (λ o lt. each o (omega (arith, lt))))

-- the entries that are carried pass, and count from no tick that had begun
pub carried_rows : (s : SetupParts) (m claims : ℕ) (journal : List JournalCall) → IsSetup s
    → HasOutputs s → IsLegalJournal s m journal
    → AllByRecursion (IsEntryOk s.device) (carried s journal claims)
carried_rows s m claims journal checked some legal =
    let it = sound s m journal checked some legal in
    all_append (IsEntryOk s.device)
    (map (carried_row s journal claims) (range_with_len 0 (length s.device.outputs)))
    (entries_where s (is_pending s journal claims) [] journal)
    (range_all (IsEntryOk s.device) (carried_row s journal claims) 0 (length s.device.outputs)
    (λ o lt. record {
      row = row_from_is s journal o claims it (omega (arith, lt));
      offset = has_frames s checked;
    }))
    (all_where (IsEntryOk s.device) s (is_pending s journal claims) journal it.rows)

pub carried_timely : (s : SetupParts) (m claims : ℕ) (journal : List JournalCall) → IsSetup s
    → HasOutputs s → IsLegalJournal s m journal
    → AllByRecursion (λ e. begin s e.at ≤ due e) (carried s journal claims)
carried_timely s m claims journal checked some legal =
    let it = sound s m journal checked some legal in
    all_append (λ (e : Entry). begin s e.at ≤ due e)
    (map (carried_row s journal claims) (range_with_len 0 (length s.device.outputs)))
    (entries_where s (is_pending s journal claims) [] journal)
    (range_all (λ (e : Entry). begin s e.at ≤ due e) (carried_row s journal claims) 0
    (length s.device.outputs) (λ o lt. begin_rises s 0 claims some (omega arith)))
    (all_where (λ (e : Entry). begin s e.at ≤ due e) s (is_pending s journal claims) journal
    it.timely)

-- the book goes on over them
pub desk_carried : (s : SetupParts) (claims : ℕ) (entries : List Entry) (p : BookStateParts)
    → IsDesk s claims entries p → p.seen ≡ claims
    → IsDesk s claims (carried s p.journal claims) (from_claims p claims)
desk_carried s claims entries p desk at =
    let some = has_outputs s desk.setup in
    let legal = legal_at s claims entries p desk in
    record {
      setup = desk.setup;
      legal = desk.legal;
      since = omega (arith, at);
      alike = λ o t there low. carried_rules s claims p.journal o t desk.setup some legal there low;
      rows = All-from_recursion (IsEntryOk s.device) (carried s p.journal claims)
          (carried_rows s claims claims p.journal desk.setup some legal);
      timely = All-from_recursion (λ (e : Entry). begin s e.at ≤ due e) (carried s p.journal claims)
          (carried_timely s claims claims p.journal desk.setup some legal);
      looked = desk.looked;
      pending_are = desk.pending_are;
      last_is = desk.last_is;
      next_is = desk.next_is;
      once = desk.once;
    }

-- ---- what is pending names no more outputs than there are

below_then : (n : ℕ) (xs ys : List ℕ) → AllByRecursion (λ y. y < n) xs
    → AllByRecursion (λ y. y < n) ys → AllByRecursion (λ y. y < n) (xs ++ ys)
below_then n xs ys a b = all_append (λ (y : ℕ). y < n) xs ys a b

held_below : (n : ℕ) (calls : List JournalCall)
    → ((p : JournalCall) → IsIn p calls → (c : OutputChangeParts) → IsIn c (action_of p.request)
    → c.output < n)
    → AllByRecursion (λ y. y < n) (outputs_held (map item_of calls))
held_below n [] each = tt
held_below n (p ∷ calls) each =
    below_then n (map (λ c. c.output) (action_of p.request)) (outputs_held (map item_of calls))
    (all_map (λ (y : ℕ). y < n) (λ (c : OutputChangeParts). c.output) (action_of p.request)
    (λ c i. each p (inl refl) c i))
    (held_below n calls (λ q i c j. each q (inr i) c j))

pub pending_few : (s : SetupParts) (claims : ℕ) (entries : List Entry) (p : BookStateParts)
    → IsDesk s claims entries p → places_kept p.pending ≤ length s.device.outputs
pending_few s claims entries p desk =
    let it = sound s p.seen p.journal desk.setup (has_outputs s desk.setup) desk.legal in
    let below : AllByRecursion (λ y. y < length s.device.outputs) (outputs_held p.pending) =
    subst (λ (is : List PendingItem).
    AllByRecursion (λ y. y < length s.device.outputs) (outputs_held is)) (sym desk.pending_are)
    (held_below (length s.device.outputs) (pending_of s p.journal p.seen)
    (λ q i c j. it.named q (from_filter (is_pending s p.journal p.seen) q p.journal i).0 c j)) in
    kept_few (length s.device.outputs) p.pending desk.once below

-- ---- how the book finds it

range_same : (f g : ℕ → Entry) (a n : ℕ) → ((o : ℕ) → o < a + n → f o ≡ g o)
    → map f (range_with_len a n) ≡ map g (range_with_len a n)
range_same f g a zero same = refl
range_same f g a (suc n) same =
    rw (same a (omega arith), range_same f g (a + 1) n (λ o lt. same o (omega (arith, lt)))) refl

pub at_place : (journal slice : List JournalCall) (k : ℕ) (call : JournalCall) → slice ≡ journal
    → k < length slice → call ≡ get_or slice k call → slice_get journal k ≡ Some call
at_place journal slice k call same within is =
    subst (λ (j : List JournalCall). slice_get j k ≡ Some call) same
    (slice_get_read slice (length slice) k call refl within is)

pub desk_named : (s : SetupParts) (claims : ℕ) (entries : List Entry) (p : BookStateParts) (k : ℕ)
    (call : JournalCall) → IsDesk s claims entries p → slice_get p.journal k ≡ Some call
    → unknown_by s.device (action_of call.request) ≡ None
desk_named s claims entries p k call desk at =
    let it = sound s p.seen p.journal desk.setup (has_outputs s desk.setup) desk.legal in
    all_known s.device (action_of call.request)
    (λ c i. it.named call (in_there p.journal k call at) c i)

pub desk_found : (s : SetupParts) (claims : ℕ) (entries : List Entry) (p : BookStateParts) (k : ℕ)
    (call : JournalCall) → IsDesk s claims entries p → slice_get p.journal k ≡ Some call
    → entries_where s (is_pending s p.journal claims) [] (take k p.journal)
    ++ waiting_entries entries p.pending (begin s claims) call
    ≡ entries_where s (is_pending s p.journal claims) [] (take (k + 1) p.journal)
desk_found s claims entries p k call desk at =
    let some = has_outputs s desk.setup in
    let it = sound s p.seen p.journal desk.setup some desk.legal in
    let since : p.from ≤ claims = omega (arith, desk.since, desk.looked) in
    found_more s p.seen claims k p.journal entries p.pending call some desk.legal desk.looked at
    desk.pending_are
    (λ c i late.
    desk.alike c.output (call_due call) (it.named call (in_there p.journal k call at) c i)
    (omega (arith, begin_rises s p.from claims some since, late)))

pub rows_found : (s : SetupParts) (claims : ℕ) (entries : List Entry) (p : BookStateParts)
    → IsDesk s claims entries p
    → map (first_entry s entries claims) (range_with_len 0 (length s.device.outputs))
    ≡ map (carried_row s p.journal claims) (range_with_len 0 (length s.device.outputs))
rows_found s claims entries p desk =
    let since : p.from ≤ claims = omega (arith, desk.since, desk.looked) in
    range_same (first_entry s entries claims) (carried_row s p.journal claims) 0
    (length s.device.outputs)
    (λ o lt. ap (λ (row : List Cell). entry_of o (tick_after s claims) 0 row 0)
    (row_alike s p.from claims entries p.journal o (has_outputs s desk.setup) desk.alike since
    (omega (arith, lt))))
