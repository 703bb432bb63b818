-- Over a list that selects alike the book decides the same and makes the same entries.
use Rattle.std.proofs.Common.{◌≡◌, ℕ, ◌<◌, ◌≤◌, Bool, true, false, List, [], ◌∷◌, ◌++◌, length}
use Rattle.std.proofs.Common.{map, Option, Some, None, refl, sym, ap, ◌∙◌, subst}
use Rattle.std.specs.Prelude.{All, if◌then◌else◌, nat_lt, option_map}
use Rattle.std.specs.Option.{option_or, unwrap_or}
use Rattle.std.proofs.lemmas.List.Elements.{All-append}
use Rattle.std.proofs.lemmas.Bool.{ltb-true}
use Rattle.list_laws.proofs.Items.{All-right}
use Rattle.io_caps.specs.declared.device.DeviceParts.{DeviceParts}
use Rattle.map_entry.specs.Action.{OutputChangeParts, applied}
use Rattle.map_entry.specs.Entry.{due, entry_of, selected}
use Rattle.map_entry.specs.Row.{row_fault}
use Rattle.map_entry.specs.Setup.{SetupParts}
use Rattle.map_entry.specs.declared.cell.Cell.{Cell}
use Rattle.map_entry.specs.declared.entry.Entry.{Entry}
use Rattle.map_entry.proofs.Selection.{selected-append}
use Rattle.plain_book.specs.Book.{bad_channel_by, bad_row_at, empty_by, first_some, time_by}
use Rattle.plain_book.specs.Book.{unknown_by}
use Rattle.plain_book.specs.Desk.{held_at, refusal_from}
use Rattle.plain_book.specs.Journal.{call_entries, change_entry, entries_of, kept_entry, row_from}
use Rattle.plain_book.specs.Rows.{SelectsAlike}
use Rattle.plain_book.specs.Time.{begin}
use Rattle.book_words.specs.declared.calls.JournalCall.{JournalCall}
use Rattle.book_words.specs.declared.replies.PendingItem.{PendingItem}
use Rattle.book_words.specs.declared.replies.Refusal.TheVariants.{Unknown, Row}
use Rattle.book_words.specs.declared.replies.Refusal.{Refusal}
use Rattle.book_words.specs.declared.requests.When.{When}
use Rattle.plain_book.proofs.Entries.{entries_more}
use Rattle.plain_book.proofs.Waiting.{HasOutputs, begin_rises}

pub row_alike : (s : SetupParts) (from claims : ℕ) (list : List Entry) (journal : List JournalCall)
    (output : ℕ) → HasOutputs s → SelectsAlike s from list journal → from ≤ claims
    → output < length s.device.outputs
    → row_from s list output claims ≡ row_from s (entries_of s journal) output claims
row_alike s from claims list journal output some alike le there =
    ap (λ (r : Option (List Cell)). unwrap_or r [])
    (alike output (begin s claims) there (begin_rises s from claims some le))

-- ---- changes whose outputs are there

record IsKnown (d : DeviceParts) (c : OutputChangeParts)
    (cs : List OutputChangeParts) : Type 0 where
  there : c.output < length d.outputs
  rest : unknown_by d cs ≡ None

known_by : (d : DeviceParts) (c : OutputChangeParts) (cs : List OutputChangeParts) (b : Bool)
    → nat_lt c.output (length d.outputs) ≡ b
    → option_or (if b then None else Some (Unknown c.output)) (unknown_by d cs) ≡ None
    → IsKnown d c cs
known_by d c cs true is e = record { there = ltb-true c.output (length d.outputs) is; rest = e }
known_by d c cs false is e = absurd cc

known : (d : DeviceParts) (c : OutputChangeParts) (cs : List OutputChangeParts)
    → unknown_by d (c ∷ cs) ≡ None
    → IsKnown d c cs
known d c cs e = known_by d c cs (nat_lt c.output (length d.outputs)) refl e

map_known : {X : Type 0} (d : DeviceParts) (f g : OutputChangeParts → X)
    → ((c : OutputChangeParts) → c.output < length d.outputs → f c ≡ g c)
    → (cs : List OutputChangeParts) → unknown_by d cs ≡ None
    → map f cs ≡ map g cs
map_known d f g same [] e = refl
map_known d f g same (c ∷ cs) e =
    let k = known d c cs e in rw (same c k.there, map_known d f g same cs k.rest) refl

some_known : {X : Type 0} (d : DeviceParts) (f g : OutputChangeParts → Option X)
    → ((c : OutputChangeParts) → c.output < length d.outputs → f c ≡ g c)
    → (cs : List OutputChangeParts) → unknown_by d cs ≡ None
    → first_some f cs ≡ first_some g cs
some_known d f g same [] e = refl
some_known d f g same (c ∷ cs) e =
    let k = known d c cs e in rw (same c k.there, some_known d f g same cs k.rest) refl

-- ---- entries

pub changes_alike : (s : SetupParts) (from claims tick offset : ℕ) (list : List Entry)
    (journal : List JournalCall) (action : List OutputChangeParts) → HasOutputs s
    → SelectsAlike s from list journal → from ≤ claims → unknown_by s.device action ≡ None
    → map (change_entry s list claims tick offset action) action
    ≡ map (change_entry s (entries_of s journal) claims tick offset action) action
changes_alike s from claims tick offset list journal action some alike le there =
    map_known s.device (change_entry s list claims tick offset action)
    (change_entry s (entries_of s journal) claims tick offset action)
    (λ c low. ap (λ (row : List Cell). entry_of c.output tick offset (applied row action c.output) claims)
    (row_alike s from claims list journal c.output some alike le low)) action there

pub kept_alike : (s : SetupParts) (from claims tick offset : ℕ) (list : List Entry)
    (journal : List JournalCall) (action : List OutputChangeParts) → HasOutputs s
    → SelectsAlike s from list journal → from ≤ claims → unknown_by s.device action ≡ None
    → map (kept_entry s list claims tick offset) action
    ≡ map (kept_entry s (entries_of s journal) claims tick offset) action
kept_alike s from claims tick offset list journal action some alike le there =
    map_known s.device (kept_entry s list claims tick offset)
    (kept_entry s (entries_of s journal) claims tick offset)
    (λ c low. ap (λ (row : List Cell). entry_of c.output tick offset row claims)
    (row_alike s from claims list journal c.output some alike le low)) action there

-- ---- the refusal

refusal_by : (s : SetupParts) (a b : Option Refusal)
    (empty time held channels : Option Refusal) (u : Option Refusal) → (u ≡ None → a ≡ b)
    → option_or empty (option_or u (option_or channels (option_or held (option_or a time))))
    ≡ option_or empty (option_or u (option_or channels (option_or held (option_or b time))))
refusal_by s a b empty time held channels None same =
    ap (λ (r : Option Refusal).
    option_or empty (option_or channels (option_or held (option_or r time))))
    (same refl)
refusal_by s a b empty time held channels (Some x) same = refl

pub refusal_alike : (s : SetupParts) (from claims : ℕ) (list : List Entry)
    (pending : List PendingItem) (journal : List JournalCall) (when : When)
    (action : List OutputChangeParts) → HasOutputs s → SelectsAlike s from list journal
    → from ≤ claims
    → refusal_from s list pending claims when action
    ≡ refusal_from s (entries_of s journal) pending claims when action
unfolding refusal_from
refusal_alike s from claims list pending journal when action some alike le =
    refusal_by s (first_some (bad_row_at s list claims action) action)
    (first_some (bad_row_at s (entries_of s journal) claims action) action)
    (empty_by action) (time_by s claims when)
    (first_some (held_at pending) action) (bad_channel_by s.device action)
    (unknown_by s.device action)
    (λ none. some_known s.device (bad_row_at s list claims action)
    (bad_row_at s (entries_of s journal) claims action)
    (λ c low. ap (λ (row : List Cell).
    option_map (Row c.output) (row_fault s.device c.output (applied row action c.output)))
    (row_alike s from claims list journal c.output some alike le low)) action none)

-- ---- one call more

pub alike_more : (s : SetupParts) (from : ℕ) (list new : List Entry) (journal : List JournalCall)
    (call : JournalCall) → SelectsAlike s from list journal
    → new ≡ call_entries s journal (entries_of s journal) call
    → SelectsAlike s from (list ++ new) (journal ++ call ∷ [])
alike_more s from list new journal call is new_is o t there since =
    selected-append due list new o t
    ∙ ap (λ (r : Option (List Cell)). option_or (selected new o t) r) (is o t there since)
    ∙ ap (λ (es : List Entry). option_or (selected es o t) (selected (entries_of s journal) o t))
    new_is
    ∙ sym (ap (λ (es : List Entry). selected es o t) (entries_more s journal call)
    ∙ selected-append due (entries_of s journal)
    (call_entries s journal (entries_of s journal) call) o t)

pub moved : (s : SetupParts) (a b : ℕ) (list after : List Entry) (journal calls : List JournalCall)
    → SelectsAlike s a list journal → b ≡ a → after ≡ list → calls ≡ journal
    → SelectsAlike s b after calls
moved s a b list after journal calls is from same more =
    subst (λ (k : ℕ). SelectsAlike s k after calls) (sym from)
    (subst (λ (es : List Entry). SelectsAlike s a es calls) (sym same)
    (subst (λ (j : List JournalCall). SelectsAlike s a list j) (sym more) is))

-- what holds of the entries of a journal holds of those that a call makes of a list that selects
-- alike
pub all_more : (P : Entry → Type 0) (s : SetupParts) (list new : List Entry)
    (journal : List JournalCall) (call : JournalCall) → All P list
    → All P (entries_of s (journal ++ call ∷ []))
    → new ≡ call_entries s journal (entries_of s journal) call
    → All P (list ++ new)
all_more P s list new journal call old all is =
    All-append P list new old
    (subst (All P) (sym is)
    (All-right P (entries_of s journal) (call_entries s journal (entries_of s journal) call)
    (subst (All P) (entries_more s journal call) all)))
