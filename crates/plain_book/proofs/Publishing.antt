-- What an accepted activation makes, and that it can be published.
use Rattle.map_entry.specs.Tick.{frame_key}
use Rattle.std.proofs.Common.{◌≡◌, ℕ, ◌+◌, ◌*◌, ◌<◌, ◌≤◌, List, [], ◌∷◌, ◌++◌, length, map, Option}
use Rattle.std.proofs.Common.{Some, None, refl, sym, ap, ◌∙◌, subst, arith, length-append}
use Rattle.std.specs.Prelude.{All, nat_lt}
use Rattle.std.specs.Option.{option_to_list}
use Rattle.std.proofs.lemmas.List.{length-map}
use Rattle.std.proofs.lemmas.List.Sums.{sum_by-append}
use Rattle.std.proofs.lemmas.List.Elements.{All-nil, All-cons}
use Rattle.list_laws.proofs.Items.{All-right}
use Rattle.map_entry.specs.Action.{OutputChangeParts}
use Rattle.map_entry.specs.Entry.{IsEntryOk, due}
use Rattle.map_entry.specs.Setup.{SetupParts}
use Rattle.tai_time.specs.Time.{nanos_limit}
use Rattle.map_entry.specs.declared.entry.Entry.{Entry}
use Rattle.plain_book.specs.Book.{call_of}
use Rattle.book_words.specs.Calls.{journal_call}
use Rattle.plain_book.specs.Desk.{IsDecided, IsDesk, IsMade, BookStateParts, item_above}
use Rattle.plain_book.specs.Desk.{last_behind}
use Rattle.plain_book.specs.Desk.{settled, staged}
use Rattle.plain_book.specs.Places.{places_each, places_kept, places_of}
use Rattle.plain_book.specs.Journal.{call_entries, change_entry, changes_of, kept_entry}
use Rattle.plain_book.specs.Journal.{request_entries, entries_of}
use Rattle.book_words.specs.Replies.{accepted}
use Rattle.plain_book.specs.Time.{begin, start}
use Rattle.book_words.specs.declared.calls.JournalCall.{JournalCall}
use Rattle.plain_book.specs.declared.kept.Acceptance.{Acceptance}
use Rattle.book_words.specs.declared.replies.Activation.{Activation}
use Rattle.book_words.specs.declared.replies.PendingItem.{PendingItem}
use Rattle.book_words.specs.declared.replies.Reply.{Reply}
use Rattle.book_words.specs.declared.requests.Request.TheVariants.{Activate, Delete, Active}
use Rattle.book_words.specs.declared.requests.Request.TheVariants.{Pending}
use Rattle.book_words.specs.declared.requests.Request.{Request}
use Rattle.book_words.specs.declared.requests.When.{When}
use Rattle.plain_book.proofs.Accepted.{called}
use Rattle.plain_book.proofs.Alike.{changes_alike}
use Rattle.plain_book.proofs.Commits.{now_low}
use Rattle.plain_book.proofs.Keeping.{IsNew, desk_entries, item_places, new_desk, new_reply, has_outputs}
use Rattle.plain_book.proofs.Keeping.{since_at}
use Rattle.plain_book.proofs.Lists.{in_last}
use Rattle.plain_book.proofs.Locks.{is_free}
use Rattle.plain_book.proofs.Timing.{have_starts}

all_at : {X : Type 0} (claims : ℕ) (f : X → Entry) → ((x : X) → (f x).at ≡ claims) → (xs : List X)
    → All (λ e. e.at ≡ claims) (map f xs)
all_at claims f each [] = All-nil (λ (e : Entry). e.at ≡ claims)
all_at claims f each (x ∷ xs) =
    All-cons (λ (e : Entry). e.at ≡ claims) (f x) (map f xs) (each x) (all_at claims f each xs)

request_ats : (s : SetupParts) (before : List JournalCall) (entries : List Entry) (claims tick offset : ℕ)
    (request : Request)
    → All (λ e. e.at ≡ claims) (request_entries s before entries claims tick offset request)
request_ats s before entries claims tick offset (Activate when action) =
    all_at claims (change_entry s entries claims tick offset action) (λ c. refl) action
request_ats s before entries claims tick offset (Delete id) =
    all_at claims (kept_entry s entries claims tick offset) (λ c. refl) (changes_of s before claims id)
request_ats s before entries claims tick offset Active = All-nil (λ (e : Entry). e.at ≡ claims)
request_ats s before entries claims tick offset Pending = All-nil (λ (e : Entry). e.at ≡ claims)

all_due : {X : Type 0} (P : ℕ → Type 0) (tick : ℕ) (f : X → Entry) → P tick
    → ((x : X) → due (f x) ≡ tick) → (xs : List X)
    → All (λ e. P (due e)) (map f xs)
all_due P tick f holds each [] = All-nil (λ (e : Entry). P (due e))
all_due P tick f holds each (x ∷ xs) =
    All-cons (λ (e : Entry). P (due e)) (f x) (map f xs) (subst P (sym (each x)) holds)
    (all_due P tick f holds each xs)

-- a request's entries count from its tick on
request_dues : (P : ℕ → Type 0) (s : SetupParts) (before : List JournalCall) (entries : List Entry)
    (claims tick offset : ℕ) (request : Request) → P (frame_key tick offset)
    → All (λ e. P (due e)) (request_entries s before entries claims tick offset request)
request_dues P s before entries claims tick offset (Activate when action) holds =
    all_due P (frame_key tick offset) (change_entry s entries claims tick offset action) holds (λ c. refl) action
request_dues P s before entries claims tick offset (Delete id) holds =
    all_due P (frame_key tick offset) (kept_entry s entries claims tick offset) holds (λ c. refl)
    (changes_of s before claims id)
request_dues P s before entries claims tick offset Active holds = All-nil (λ (e : Entry). P (due e))
request_dues P s before entries claims tick offset Pending holds = All-nil (λ (e : Entry). P (due e))

-- what the entries of a call are, where the book is one with them
pub made_of : (s : SetupParts) (claims : ℕ) (entries : List Entry) (p : BookStateParts)
    (m : Acceptance)
    → m.call.at ≡ claims → m.entries ≡ call_entries s p.journal entries m.call
    → m.entries ≡ call_entries s p.journal (entries_of s p.journal) m.call
    → IsDesk s claims (entries ++ m.entries) (settled (staged p m.call m.item) m.settling)
    → m.places ≡ places_of m.call.request → m.places ≤ 2 * length s.device.outputs
    → length m.entries + places_kept (settled (staged p m.call m.item) m.settling).pending
    ≤ m.places + places_kept p.pending
    → IsMade s claims entries p m
made_of s claims entries p m at is whole after places few room =
    let all =
    desk_entries s claims (entries ++ m.entries)
    (settled (staged p m.call m.item) m.settling) after in
    record {
      at_is = at;
      entries_are = is;
      whole_are = whole;
      after = after;
      places_are = places;
      few = few;
      room = room;
      fits = record {
        ats =
            rw is
            (subst (λ (k : ℕ). All (λ e. e.at ≡ k) (call_entries s p.journal entries m.call)) at
            (request_ats s p.journal entries m.call.at m.call.tick m.call.offset m.call.request));
        rows = All-right (IsEntryOk s.device) entries m.entries all.rows;
        timely = All-right (λ (e : Entry). begin s e.at ≤ due e) entries m.entries all.timely;
        starts =
            rw is
            (request_dues (λ (key : ℕ). start s key < nanos_limit) s p.journal entries m.call.at
            m.call.tick m.call.offset m.call.request
            (have_starts s p.seen (p.journal ++ m.call ∷ []) after.legal m.call
            (in_last p.journal m.call)));
      };
    }

-- what an accepted activation makes
pub new_decided : (s : SetupParts) (claims client : ℕ) (entries : List Entry) (p : BookStateParts)
    (when : When) (action : List OutputChangeParts) (request : Request)
    (id tick offset next places : ℕ)
    (call : JournalCall) (made : List Entry) (item : Option PendingItem) (last : Option Activation)
    (reply : Reply) → IsDesk s claims entries p → p.seen ≡ claims
    → IsNew s claims client p.journal request when action id tick offset
    → call ≡ journal_call claims client id tick offset request
    → made ≡ map (change_entry s entries claims tick offset action) action
    → item ≡ item_above (begin s claims) id when tick offset action
    → last ≡ last_behind (begin s claims) id when tick offset p.last → next ≡ id + 1
    → places ≡ places_each when * length action → places ≤ 2 * length s.device.outputs
    → reply ≡ accepted when id tick offset
    → IsDecided s claims entries p client request (record {
      reply = reply;
      made =
          Some (record {
            call = call;
            entries = made;
            item = item;
            places = places;
            settling = record { takes = None; last = last; next = next };
          });
    })
new_decided s claims client entries p when action request id tick offset next places call made item
    last reply desk at is call_is made_is item_is last_is next_is places_is few says = record {
      reply_is = says ∙ sym (new_reply s claims client p.journal request when action id tick offset is);
      call_is =
          ap Some call_is ∙ sym (called s p.journal client claims request when id tick offset)
          ∙ ap (call_of s p.journal client claims request) (sym says);
      made_is =
          made_of s claims entries p (record {
            call = call;
            entries = made;
            item = item;
            places = places;
            settling = record { takes = None; last = last; next = next };
          })
          (ap (λ (c : JournalCall). c.at) call_is)
          (made_is
          ∙ sym (ap (call_entries s p.journal entries)
          (call_is ∙ ap (journal_call claims client id tick offset) is.asks)))
          (made_is
          ∙ changes_alike s p.from claims tick offset entries p.journal action (has_outputs s desk.setup)
          desk.alike (since_at s claims entries p desk)
          (is_free s p.journal claims when action is.free).known
          ∙ sym (ap (call_entries s p.journal (entries_of s p.journal))
          (call_is ∙ ap (journal_call claims client id tick offset) is.asks)))
          (new_desk s claims client entries (entries ++ made) p
          (settled (staged p call item)
          (record { takes = None; last = last; next = next })) when action request id
          tick offset call made item desk is call_is made_is item_is refl refl refl at at last_is refl
          next_is)
          (places_is ∙ sym (ap places_of (ap (λ (c : JournalCall). c.request) call_is ∙ is.asks)))
          few
          (omega (
            arith,
            places_is,
            ap length made_is,
            length-map action (change_entry s entries claims tick offset action),
            sum_by-append (λ (i : PendingItem). length i.action) p.pending (option_to_list item),
            ap (λ (o : Option PendingItem). places_kept (option_to_list o)) item_is,
            item_places (begin s claims) id tick offset when action
                (nat_lt (begin s claims) (frame_key tick offset)) refl
                (now_low s claims (frame_key tick offset) when is.lands),
          ));
    }
