-- What a book keeps, after an accepted call.
use Rattle.map_entry.specs.Tick.{frame_key}
use Rattle.plain_book.specs.Time.{key_at}
use Rattle.plain_book.specs.Time.{land}
use Rattle.plain_book.specs.Book.{landing_offset}
use Rattle.std.proofs.Common.{◌^◌, ◌<◌}
use Rattle.std.proofs.Common.{◌≡◌, ℕ, ◌+◌, ◌*◌, ◌≤◌, false, List, [], ◌∷◌, ◌++◌, length, map}
use Rattle.std.proofs.Common.{Option, None, refl, sym, ap, ◌∙◌, subst, arith, length-append, Bool}
use Rattle.std.proofs.Common.{true}
use Rattle.std.specs.Prelude.{cond, nat_lt, option_map, All}
use Rattle.std.specs.Option.{option_map_or, option_to_list}
use Rattle.std.proofs.lemmas.Bool.{false_from_ne_true, false≢true}
use Rattle.std.proofs.lemmas.List.{length-map}
use Rattle.std.proofs.lemmas.List.Sums.{sum_by-append}
use Rattle.std.specs.Prelude.{All, IsSome}
use Rattle.map_entry.specs.Action.{IsAction, OutputChangeParts}
use Rattle.map_entry.specs.Entry.{IsEntryOk, due}
use Rattle.map_entry.specs.Setup.{IsSetup, SetupParts}
use Rattle.map_entry.specs.declared.entry.Entry.{Entry}
use Rattle.plain_book.specs.Book.{call_of, landing_tick, refusal_of, reply_of}
use Rattle.book_words.specs.Calls.{is_activation, is_later, journal_call}
use Rattle.plain_book.specs.Desk.{IsDesk, BookStateParts, item_above, last_behind}
use Rattle.plain_book.specs.Places.{IsHeldOnce, places_each, places_kept}
use Rattle.plain_book.specs.Journal.{call_entries, change_entry, entries_of}
use Rattle.plain_book.specs.Legal.{IsAccepted, IsLegalJournal}
use Rattle.plain_book.specs.Pending.{is_deleted, last_of, next_id, pending_of}
use Rattle.book_words.specs.Replies.{accepted, item_of, shown}
use Rattle.plain_book.specs.Rows.{AreEntries}
use Rattle.plain_book.specs.Time.{begin}
use Rattle.book_words.specs.declared.calls.JournalCall.{JournalCall}
use Rattle.book_words.specs.declared.replies.PendingItem.{PendingItem}
use Rattle.book_words.specs.declared.replies.Refusal.{Refusal}
use Rattle.book_words.specs.declared.replies.Reply.TheVariants.{Refused}
use Rattle.book_words.specs.declared.requests.Request.TheVariants.{Activate}
use Rattle.book_words.specs.declared.requests.Request.{Request}
use Rattle.book_words.specs.declared.requests.When.TheVariants.{Now, At, After}
use Rattle.book_words.specs.declared.requests.When.{When}
use Rattle.plain_book.proofs.Accepted.{called}
use Rattle.plain_book.proofs.Alike.{all_more, alike_more, changes_alike, moved}
use Rattle.plain_book.proofs.Commits.{legal_later, legal_more, new_last, new_pending, now_low}
use Rattle.plain_book.proofs.Locks.{is_free}
use Rattle.plain_book.proofs.Places.{once_above}
use Rattle.plain_book.proofs.Sound.{entries_are}
use Rattle.plain_book.proofs.Waiting.{HasIds, HasOutputs, begin_rises, ids}

pub has_outputs : (s : SetupParts) → IsSetup s → HasOutputs s
has_outputs s checked = omega (arith, checked.device.bounds.some_output)

-- what a book that has looked keeps to at these claims
pub legal_at : (s : SetupParts) (claims : ℕ) (entries : List Entry) (p : BookStateParts)
    → IsDesk s claims entries p
    → IsLegalJournal s claims p.journal
legal_at s claims entries p desk = legal_later s p.seen claims p.journal desk.looked desk.legal

pub since_at : (s : SetupParts) (claims : ℕ) (entries : List Entry) (p : BookStateParts)
    → IsDesk s claims entries p
    → p.from ≤ claims
since_at s claims entries p desk = omega (arith, desk.since, desk.looked)

pub pending_at : (s : SetupParts) (claims : ℕ) (entries : List Entry) (p : BookStateParts)
    → IsDesk s claims entries p → p.seen ≡ claims
    → p.pending ≡ map item_of (pending_of s p.journal claims)
pending_at s claims entries p desk at =
    desk.pending_are ∙ ap (λ (c : ℕ). map item_of (pending_of s p.journal c)) at

pub last_at : (s : SetupParts) (claims : ℕ) (entries : List Entry) (p : BookStateParts)
    → IsDesk s claims entries p → p.seen ≡ claims
    → p.last ≡ option_map shown (last_of s p.journal claims)
last_at s claims entries p desk at =
    desk.last_is ∙ ap (λ (c : ℕ). option_map shown (last_of s p.journal c)) at

pub entries_since : (s : SetupParts) (claims since : ℕ) (entries : List Entry) (p : BookStateParts)
    → IsDesk s claims entries p → begin s p.from ≤ since
    → AreEntries s since entries
entries_since s claims since entries p desk low = record {
  rows = desk.rows;
  timely = desk.timely;
  cover = λ o t there le. subst IsSome (sym (desk.alike o t there (omega (arith, low, le))))
      ((entries_are s p.seen p.journal desk.setup (has_outputs s desk.setup) desk.legal).cover o t
      there (omega (arith, low, le)));
}

-- the entries of a legal journal, from a tick on
pub entries_at : (s : SetupParts) (claims tick : ℕ) (journal : List JournalCall) → IsSetup s
    → IsLegalJournal s claims journal → key_at s s.device.base ≤ tick
    → AreEntries s tick (entries_of s journal)
entries_at s claims tick journal is legal low =
    let whole = entries_are s claims journal is (has_outputs s is) legal in
    record {
      rows = whole.rows;
      timely = whole.timely;
      cover = λ o t there le. whole.cover o t there (omega (arith, low, le));
    }

pub desk_entries : (s : SetupParts) (claims : ℕ) (entries : List Entry) (p : BookStateParts)
    → IsDesk s claims entries p
    → AreEntries s (begin s claims) entries
desk_entries s claims entries p desk =
    entries_since s claims (begin s claims) entries p desk
    (begin_rises s p.from claims (has_outputs s desk.setup) (since_at s claims entries p desk))

-- ---- an accepted activation

reply_free : (s : SetupParts) (journal : List JournalCall) (claims : ℕ) (when : When)
    (action : List OutputChangeParts) → refusal_of s journal claims when action ≡ None
    → reply_of s journal claims (Activate when action)
    ≡ accepted when (next_id journal) (landing_tick s claims when) (landing_offset s claims when)
unfolding reply_of
reply_free s journal claims when action free =
    ap (λ (r : Option Refusal).
    option_map_or Refused r (accepted when (next_id journal) (landing_tick s claims when)
    (landing_offset s claims when))) free

pub record IsNew (s : SetupParts) (claims client : ℕ) (journal : List JournalCall)
    (request : Request) (when : When) (action : List OutputChangeParts) (id tick offset : ℕ) : Type 0 where
  pub asks : request ≡ Activate when action
  pub free : refusal_of s journal claims when action ≡ None
  pub id_is : id ≡ next_id journal
  pub lands : frame_key tick offset ≡ land s claims when
  pub few : offset < 2 ^ 16
  pub ordered : IsAction action

pub new_reply : (s : SetupParts) (claims client : ℕ) (journal : List JournalCall)
    (request : Request) (when : When) (action : List OutputChangeParts) (id tick offset : ℕ)
    → IsNew s claims client journal request when action id tick offset
    → reply_of s journal claims request ≡ accepted when id tick offset
new_reply s claims client journal request when action id tick offset is =
    let tick : tick ≡ landing_tick s claims when = omega (arith, is.lands, is.few) in
    let offset : offset ≡ landing_offset s claims when = omega (arith, is.lands, is.few) in
    rw (is.asks, is.id_is, tick, offset) (reply_free s journal claims when action is.free)

new_accepted : (s : SetupParts) (claims client : ℕ) (journal : List JournalCall) (request : Request)
    (when : When) (action : List OutputChangeParts) (id tick offset : ℕ)
    → IsNew s claims client journal request when action id tick offset
    → IsAccepted s journal (journal_call claims client id tick offset request)
new_accepted s claims client journal request when action id tick offset is =
    ap (call_of s journal client claims request)
    (new_reply s claims client journal request when action id tick offset is)
    ∙ called s journal client claims request when id tick offset

pub item_places : (key id tick offset : ℕ) (when : When) (action : List OutputChangeParts) (b : Bool)
    → nat_lt key (frame_key tick offset) ≡ b → (is_later when ≡ false → b ≡ false)
    → length action + places_kept (option_to_list (item_above key id when tick offset action))
    ≤ places_each when * length action
item_places key id tick offset Now action true is none = absurd (false≢true (sym (none refl)))
item_places key id tick offset Now action false is none = rw is (omega arith)
item_places key id tick offset (At x) action true is none = rw is (omega arith)
item_places key id tick offset (At x) action false is none = rw is (omega arith)
item_places key id tick offset (After x) action true is none = rw is (omega arith)
item_places key id tick offset (After x) action false is none = rw is (omega arith)

pub at_seen : (s : SetupParts) (call : JournalCall) (journal : List JournalCall)
    (new : BookStateParts)
    → {claims : ℕ} → new.seen ≡ claims → new.journal ≡ journal ++ call ∷ []
    → map item_of (pending_of s new.journal new.seen)
    ≡ map item_of (pending_of s (journal ++ call ∷ []) claims)
at_seen s call journal new seen is =
    ap (λ (j : List JournalCall). map item_of (pending_of s j new.seen)) is
    ∙ ap (λ (c : ℕ). map item_of (pending_of s (journal ++ call ∷ []) c)) seen

pub last_seen : (s : SetupParts) (call : JournalCall) (journal : List JournalCall)
    (new : BookStateParts)
    → {claims : ℕ} → new.seen ≡ claims → new.journal ≡ journal ++ call ∷ []
    → option_map shown (last_of s new.journal new.seen)
    ≡ option_map shown (last_of s (journal ++ call ∷ []) claims)
last_seen s call journal new seen is =
    ap (λ (j : List JournalCall). option_map shown (last_of s j new.seen)) is
    ∙ ap (λ (c : ℕ). option_map shown (last_of s (journal ++ call ∷ []) c)) seen

pub new_desk : (s : SetupParts) (claims client : ℕ) (entries after : List Entry)
    (old new : BookStateParts) (when : When) (action : List OutputChangeParts) (request : Request)
    (id tick offset : ℕ) (call : JournalCall) (made : List Entry) (item : Option PendingItem)
    → IsDesk s claims entries old → IsNew s claims client old.journal request when action id tick offset
    → call ≡ journal_call claims client id tick offset request
    → made ≡ map (change_entry s entries claims tick offset action) action
    → item ≡ item_above (begin s claims) id when tick offset action
    → new.journal ≡ old.journal ++ call ∷ [] → after ≡ entries ++ made
    → new.pending ≡ old.pending ++ option_to_list item → old.seen ≡ claims → new.seen ≡ claims
    → new.last ≡ last_behind (begin s claims) id when tick offset old.last → new.from ≡ old.from
    → new.next ≡ id + 1
    → IsDesk s claims after new
new_desk s claims client entries after old new when action request id tick offset call made item desk is
    call_is made_is item_is journal after_is pending old_seen seen last from next =
    let whole : call ≡ journal_call claims client id tick offset (Activate when action) =
    call_is ∙ ap (journal_call claims client id tick offset) is.asks in
    let journal_is : new.journal
    ≡ old.journal ++ journal_call claims client id tick offset (Activate when action) ∷ [] =
    journal ∙ ap (λ (c : JournalCall). old.journal ++ c ∷ []) whole in
    let taken : JournalCall = journal_call claims client id tick offset (Activate when action) in
    let known : HasIds old.journal =
    ids s claims old.journal (legal_at s claims entries old desk) in
    let fresh : is_deleted old.journal id ≡ false =
    false_from_ne_true (is_deleted old.journal id)
    (λ h. let low = known.deleted id h in omega (arith, low, is.id_is)) in
    let legal : IsLegalJournal s claims (old.journal ++ taken ∷ []) =
    legal_more s claims old.journal taken (legal_at s claims entries old desk)
    (subst (λ (r : Request). IsAccepted s old.journal (journal_call claims client id tick offset r))
    is.asks (new_accepted s claims client old.journal request when action id tick offset is)) refl in
    let whole_are =
    entries_are s claims (old.journal ++ taken ∷ []) desk.setup (has_outputs s desk.setup) legal in
    let made_alike : made ≡ call_entries s old.journal (entries_of s old.journal) taken =
    made_is
    ∙ changes_alike s old.from claims tick offset entries old.journal action (has_outputs s desk.setup)
    desk.alike (since_at s claims entries old desk)
    (is_free s old.journal claims when action is.free).known in
    record {
      setup = desk.setup;
      legal = rw (journal_is, seen) legal;
      since = omega (arith, from, desk.since, old_seen, seen);
      looked = omega (arith, seen);
      alike =
          moved s old.from new.from (entries ++ made) after (old.journal ++ taken ∷ []) new.journal
          (alike_more s old.from entries made old.journal taken desk.alike made_alike) from after_is
          journal_is;
      rows =
          subst (All (IsEntryOk s.device)) (sym after_is)
          (all_more (IsEntryOk s.device) s entries made old.journal taken desk.rows whole_are.rows
          made_alike);
      timely =
          subst (All (λ e. begin s e.at ≤ due e)) (sym after_is)
          (all_more (λ (e : Entry). begin s e.at ≤ due e) s entries made old.journal taken
          desk.timely whole_are.timely made_alike);
      pending_are =
          pending ∙ ap (λ (o : Option PendingItem). old.pending ++ option_to_list o) item_is
          ∙ ap (λ (is : List PendingItem).
          is ++ option_to_list (item_above (begin s claims) id when tick offset action))
          (pending_at s claims entries old desk old_seen)
          ∙ new_pending s old.journal claims client id tick offset when action fresh is.lands
          ∙ sym (at_seen s taken old.journal new seen journal_is);
      last_is =
          last
          ∙ ap (last_behind (begin s claims) id when tick offset)
          (last_at s claims entries old desk old_seen)
          ∙ new_last s old.journal claims client id tick offset when action fresh is.lands
          ∙ sym (last_seen s taken old.journal new seen journal_is);
      next_is =
          sym (ap next_id journal_is
          ∙ omega (
            arith,
            sum_by-append (λ (c : JournalCall). cond (is_activation c.request) 1 0) old.journal
                (taken ∷ []),
            next,
            is.id_is,
          ));
      once =
          subst IsHeldOnce
          (sym (pending ∙ ap (λ (o : Option PendingItem). old.pending ++ option_to_list o) item_is))
          (once_above s old.journal claims (begin s claims) id tick offset when action old.pending
          (nat_lt (begin s claims) (frame_key tick offset)) refl desk.once
          (pending_at s claims entries old desk old_seen)
          is.ordered (is_free s old.journal claims when action is.free).unlocked);
    }
