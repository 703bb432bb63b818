-- What a book keeps, after an accepted deletion.
use Rattle.plain_book.specs.declared.moments.Moment.{Moment}
use Rattle.plain_book.specs.Moments.{moment}
use Rattle.plain_book.specs.Desk.{moment_of}
use Rattle.std.proofs.Common.{◌≡◌, ℕ, ◌+◌, ◌<◌, ◌≤◌, true, eqb, List, [], ◌∷◌, ◌++◌, length, map}
use Rattle.std.proofs.Common.{Option, Some, None, inl, inr, refl, sym, ap, ◌∙◌, subst, arith}
use Rattle.std.proofs.Common.{length-append}
use Rattle.std.specs.Prelude.{filter, not, cond, option_map}
use Rattle.std.specs.Option.{option_map_or}
use Rattle.std.proofs.lemmas.Bool.{cases_Bool, eq-eqb, eqb-true, lt-ltb}
use Rattle.std.proofs.lemmas.List.{append-nil, length-map}
use Rattle.std.proofs.lemmas.List.Sums.{sum_by-append, sum_by-cons}
use Rattle.std.specs.Prelude.{All}
use Rattle.io_caps.specs.declared.device.DeviceParts.{DeviceParts}
use Rattle.map_entry.specs.Action.{OutputChangeParts}
use Rattle.map_entry.specs.Entry.{IsEntryOk, due}
use Rattle.map_entry.specs.Setup.{SetupParts}
use Rattle.map_entry.specs.declared.entry.Entry.{Entry}
use Rattle.plain_book.specs.Book.{call_of, deletion, reply_of, unknown_by}
use Rattle.book_words.specs.Calls.{action_of, is_activation, journal_call}
use Rattle.plain_book.specs.Desk.{IsDecided, IsDesk, BookStateParts, item_at, settled}
use Rattle.plain_book.specs.Desk.{staged, taken_by}
use Rattle.plain_book.specs.Places.{IsHeldOnce, places_kept, places_of}
use Rattle.plain_book.specs.Journal.{call_entries, entries_of, kept_entry}
use Rattle.plain_book.specs.Legal.{IsAccepted, IsLegalJournal}
use Rattle.plain_book.specs.Pending.{is_pending, next_id, pending_call, pending_of}
use Rattle.book_words.specs.Replies.{item_of, shown}
use Rattle.plain_book.specs.Time.{begin}
use Rattle.book_words.specs.declared.calls.JournalCall.{JournalCall}
use Rattle.book_words.specs.declared.replies.PendingItem.{PendingItem}
use Rattle.book_words.specs.declared.replies.Refusal.TheVariants.{NotPending}
use Rattle.book_words.specs.declared.replies.Reply.TheVariants.{Deleted, Refused}
use Rattle.book_words.specs.declared.requests.Request.TheVariants.{Delete}
use Rattle.book_words.specs.declared.requests.Request.{Request}
use Rattle.plain_book.proofs.Alike.{all_more, alike_more, kept_alike, moved}
use Rattle.plain_book.proofs.Commits.{gone_last, gone_pending, legal_more}
use Rattle.plain_book.proofs.Keeping.{has_outputs, at_seen, last_at, last_seen, legal_at}
use Rattle.plain_book.proofs.Keeping.{pending_at, since_at}
use Rattle.plain_book.proofs.Lists.{IsIn, from_find, from_filter}
use Rattle.plain_book.proofs.Looking.{item_pending}
use Rattle.plain_book.proofs.Places.{once_filtered}
use Rattle.plain_book.proofs.Publishing.{made_of}
use Rattle.plain_book.proofs.Sound.{IsSound, entries_are, sound}
use Rattle.plain_book.proofs.Waiting.{found_waits, one_of}

-- ---- the item that is found

pub item_is : (s : SetupParts) (claims : ℕ) (entries : List Entry) (kept : BookStateParts) (id : ℕ)
    (o : Option PendingItem) → IsDesk s claims entries kept → kept.seen ≡ claims
    → o ≡ item_at id kept.pending
    → o ≡ option_map item_of (pending_call s kept.journal claims id)
item_is s claims entries kept id o desk at is =
    is ∙ ap (item_at id) (pending_at s claims entries kept desk at)
    ∙ item_pending s kept.journal claims id

pub none_taken : (s : SetupParts) (entries : List Entry) (claims : ℕ) (found : Option JournalCall)
    → None ≡ option_map item_of found
    → None ≡ option_map (taken_by s entries claims) found
none_taken s entries claims None e = refl
none_taken s entries claims (Some c) e = absurd cc

pub some_taken : (s : SetupParts) (entries : List Entry) (claims : ℕ) (found : Option JournalCall)
    (item : PendingItem) (made : List Entry) → Some item ≡ option_map item_of found
    → made ≡ map (kept_entry s entries claims item.tick item.offset) item.action
    → Some (moment item.tick item.offset, made) ≡ option_map (taken_by s entries claims) found
some_taken s entries claims None item made e is = absurd cc
some_taken s entries claims (Some c) item made e is =
    let same : item ≡ item_of c = cc in
    ap (λ (m : List Entry). Some (moment item.tick item.offset, m)) is
    ∙ ap (λ (i : PendingItem). Some (moment i.tick i.offset, map (kept_entry s entries claims i.tick i.offset) i.action))
    same

-- its outputs are there
pub all_known : (d : DeviceParts) (action : List OutputChangeParts)
    → ((c : OutputChangeParts) → IsIn c action → c.output < length d.outputs)
    → unknown_by d action ≡ None
all_known d [] each = refl
all_known d (c ∷ cs) each =
    rw (lt-ltb c.output (length d.outputs) (each c (inl refl)))
    (all_known d cs (λ x i. each x (inr i)))

known_of : (s : SetupParts) (journal : List JournalCall) (claims id : ℕ)
    (found : Option JournalCall) (item : PendingItem) → IsSound s journal
    → pending_call s journal claims id ≡ found → Some item ≡ option_map item_of found
    → unknown_by s.device item.action ≡ None
known_of s journal claims id None item fine is e = absurd cc
known_of s journal claims id (Some c) item fine is e =
    let same : item_of c ≡ item = cc in
    let f = from_find (λ (x : JournalCall). eqb x.id id) c (pending_of s journal claims) is in
    let g = from_filter (is_pending s journal claims) c journal f.0 in
    subst (λ (i : PendingItem). unknown_by s.device i.action ≡ None) same
    (all_known s.device (action_of c.request) (λ x i. fine.named c g.0 x i))

pub item_known : (s : SetupParts) (claims : ℕ) (entries : List Entry) (kept : BookStateParts)
    (id : ℕ)
    (item : PendingItem) → IsDesk s claims entries kept
    → Some item ≡ option_map item_of (pending_call s kept.journal claims id)
    → unknown_by s.device item.action ≡ None
item_known s claims entries kept id item desk e =
    known_of s kept.journal claims id (pending_call s kept.journal claims id) item
    (sound s kept.seen kept.journal desk.setup (has_outputs s desk.setup) desk.legal) refl e

-- ---- replies

delete_reply : (s : SetupParts) (journal : List JournalCall) (claims id : ℕ)
    → reply_of s journal claims (Delete id)
    ≡ option_map_or (λ call. Deleted id) (pending_call s journal claims id)
    (Refused (NotPending id))
unfolding reply_of
delete_reply s journal claims id = refl

pub not_pending : (s : SetupParts) (claims client id : ℕ) (entries : List Entry)
    (p : BookStateParts)
    (request : Request) (found : Option JournalCall) → request ≡ Delete id
    → pending_call s p.journal claims id ≡ found
    → None ≡ option_map (taken_by s entries claims) found
    → IsDecided s claims entries p client request
    (record { reply = Refused (NotPending id); made = None })
not_pending s claims client id entries p request (Some c) asks is none = absurd cc
not_pending s claims client id entries p request None asks is none = record {
  reply_is =
      sym (ap (reply_of s p.journal claims) asks ∙ delete_reply s p.journal claims id
      ∙ ap (λ (o : Option JournalCall).
      option_map_or (λ call. Deleted id) o (Refused (NotPending id))) is);
  call_is = refl;
  made_is = tt;
}

pub record IsGone (s : SetupParts) (claims client id : ℕ) (journal : List JournalCall)
    (entries : List Entry) (request : Request) (m : Moment) (made : List Entry) : Type 0 where
  pub found : JournalCall
  pub asks : request ≡ Delete id
  pub is : pending_call s journal claims id ≡ Some found
  pub moment_is : m ≡ moment_of found
  pub made_is : made ≡ map (kept_entry s entries claims found.tick found.offset) (action_of found.request)

pub is_gone : (s : SetupParts) (claims client id : ℕ) (journal : List JournalCall)
    (entries : List Entry) (request : Request) (m : Moment) (made : List Entry)
    (found : Option JournalCall) → request ≡ Delete id → pending_call s journal claims id ≡ found
    → Some (m, made) ≡ option_map (taken_by s entries claims) found
    → IsGone s claims client id journal entries request m made
is_gone s claims client id journal entries request m made None asks is e = absurd cc
is_gone s claims client id journal entries request m made (Some c) asks is e =
    let same : (m, made) ≡ taken_by s entries claims c = cc in
    record {
      found = c;
      asks = asks;
      is = is;
      moment_is = ap (λ (p : Moment × List Entry). p.0) same;
      made_is = ap (λ (p : Moment × List Entry). p.1) same;
    }

gone_reply : (s : SetupParts) (claims client id : ℕ) (journal : List JournalCall)
    (entries : List Entry) (request : Request) (m : Moment) (made : List Entry)
    → IsGone s claims client id journal entries request m made
    → reply_of s journal claims request ≡ Deleted id
gone_reply s claims client id journal entries request m made is =
    ap (reply_of s journal claims) is.asks ∙ delete_reply s journal claims id
    ∙ ap (λ (o : Option JournalCall).
    option_map_or (λ call. Deleted id) o (Refused (NotPending id))) is.is

gone_call : (s : SetupParts) (claims client id : ℕ) (journal : List JournalCall)
    (entries : List Entry) (request : Request) (m : Moment) (made : List Entry)
    → IsGone s claims client id journal entries request m made
    → call_of s journal client claims request (Deleted id)
    ≡ Some (journal_call claims client 0 m.tick m.offset request)
gone_call s claims client id journal entries request m made is =
    ap (option_map (deletion client claims request)) is.is
    ∙ ap (λ (n : Moment). Some (journal_call claims client 0 n.tick n.offset request))
    (sym is.moment_is)

gone_accepted : (s : SetupParts) (claims client id : ℕ) (journal : List JournalCall)
    (entries : List Entry) (request : Request) (m : Moment) (made : List Entry)
    → IsGone s claims client id journal entries request m made
    → IsAccepted s journal (journal_call claims client 0 m.tick m.offset request)
gone_accepted s claims client id journal entries request m made is =
    ap (call_of s journal client claims request)
    (gone_reply s claims client id journal entries request m made is)
    ∙ gone_call s claims client id journal entries request m made is

more : (x : PendingItem) (xs : List PendingItem)
    → places_kept (x ∷ xs) ≡ length x.action + places_kept xs
more x xs = sum_by-cons (λ (i : PendingItem). length i.action) x xs

fewer : (id : ℕ) (items : List PendingItem)
    → places_kept (filter (λ i. not (eqb id i.id)) items) ≤ places_kept items
fewer id [] = omega arith
fewer id (x ∷ xs) = elim (cases_Bool (eqb id x.id)) [
  | inl hit ↦ rw hit (let l = fewer id xs in omega (arith, l, more x xs))
  | inr miss ↦
      rw miss
      (let l = fewer id xs in
      omega (arith, l, more x xs, more x (filter (λ i. not (eqb id i.id)) xs)))
]

-- the item that is taken off gives its places
places_less : (id : ℕ) (item : PendingItem) (items : List PendingItem)
    → IsIn item items × (eqb item.id id ≡ true)
    → places_kept (filter (λ i. not (eqb id i.id)) items) + length item.action ≤ places_kept items
places_less id item [] m = absurd m.0
places_less id item (x ∷ xs) (inl e, at) =
    let here : eqb id x.id ≡ true =
    ap (λ (i : PendingItem). eqb id i.id) e ∙ ap (eqb id) (eqb-true item.id id at)
    ∙ eq-eqb id id refl in
    let long : length x.action ≡ length item.action = ap (λ (i : PendingItem). length i.action) e in
    rw here (omega (arith, long, fewer id xs, more x xs))
places_less id item (x ∷ xs) (inr i, at) = elim (cases_Bool (eqb id x.id)) [
  | inl hit ↦ rw hit (let l = places_less id item xs (i, at) in omega (arith, l, more x xs))
  | inr miss ↦
      rw miss
      (let l = places_less id item xs (i, at) in
      omega (arith, l, more x xs, more x (filter (λ i. not (eqb id i.id)) xs)))
]

gone_item : (s : SetupParts) (claims client id : ℕ) (entries : List Entry) (p : BookStateParts)
    (request : Request) (m : Moment) (made : List Entry) → IsDesk s claims entries p → p.seen ≡ claims
    → (is : IsGone s claims client id p.journal entries request m made)
    → IsIn (item_of is.found) p.pending × (eqb is.found.id id ≡ true)
gone_item s claims client id entries p request m made desk at is =
    let found : item_at id p.pending ≡ Some (item_of is.found) =
    ap (item_at id) (pending_at s claims entries p desk at) ∙ item_pending s p.journal claims id
    ∙ ap (option_map item_of) is.is in
    from_find (λ (i : PendingItem). eqb i.id id) (item_of is.found) p.pending found

pub gone_desk : (s : SetupParts) (claims client id : ℕ) (entries after : List Entry)
    (old new : BookStateParts) (request : Request) (m : Moment) (made : List Entry)
    (call : JournalCall)
    → IsDesk s claims entries old → IsGone s claims client id old.journal entries request m made
    → call ≡ journal_call claims client 0 m.tick m.offset request → new.journal ≡ old.journal ++ call ∷ []
    → after ≡ entries ++ made → new.pending ≡ filter (λ item. not (eqb id item.id)) old.pending
    → old.seen ≡ claims → new.seen ≡ claims → new.last ≡ old.last → new.from ≡ old.from
    → new.next ≡ old.next
    → IsDesk s claims after new
gone_desk s claims client id entries after old new request m made call desk is call_is journal
    after_is pending old_seen seen last from next =
    let taken : JournalCall = journal_call claims client 0 is.found.tick is.found.offset (Delete id) in
    let whole : call ≡ taken =
    call_is ∙ ap (journal_call claims client 0 m.tick m.offset) is.asks
    ∙ ap (λ (n : Moment). journal_call claims client 0 n.tick n.offset (Delete id)) is.moment_is in
    let journal_is : new.journal ≡ old.journal ++ taken ∷ [] =
    journal ∙ ap (λ (c : JournalCall). old.journal ++ c ∷ []) whole in
    let ok : IsAccepted s old.journal taken =
    subst (IsAccepted s old.journal) (sym call_is ∙ whole)
    (gone_accepted s claims client id old.journal entries request m made is) in
    let legal : IsLegalJournal s claims (old.journal ++ taken ∷ []) =
    legal_more s claims old.journal taken (legal_at s claims entries old desk) ok refl in
    let whole_are =
    entries_are s claims (old.journal ++ taken ∷ []) desk.setup (has_outputs s desk.setup) legal in
    let back = found_waits s old.journal claims id is.found is.is in
    let there : unknown_by s.device (action_of is.found.request) ≡ None =
    item_known s claims entries old id (item_of is.found) desk
    (sym (ap (option_map item_of) is.is)) in
    let made_alike : made ≡ call_entries s old.journal (entries_of s old.journal) taken =
    is.made_is
    ∙ kept_alike s old.from claims is.found.tick is.found.offset entries old.journal (action_of is.found.request)
    (has_outputs s desk.setup) desk.alike (since_at s claims entries old desk) there
    ∙ ap (λ (o : Option JournalCall). map (kept_entry s (entries_of s old.journal) claims
    is.found.tick is.found.offset)
    (option_map_or (λ c. action_of c.request) o [])) (sym is.is) in
    record {
      setup = desk.setup;
      legal = rw (journal_is, seen) legal;
      since = omega (arith, from, desk.since, old_seen, seen);
      looked = omega (arith, seen);
      alike =
          moved s old.from new.from (entries ++ made) after (old.journal ++ taken ∷ []) new.journal
          (alike_more s old.from entries made old.journal taken desk.alike made_alike) from after_is
          journal_is;
      rows =
          subst (All (IsEntryOk s.device)) (sym after_is)
          (all_more (IsEntryOk s.device) s entries made old.journal taken desk.rows whole_are.rows
          made_alike);
      timely =
          subst (All (λ e. begin s e.at ≤ due e)) (sym after_is)
          (all_more (λ (e : Entry). begin s e.at ≤ due e) s entries made old.journal taken
          desk.timely whole_are.timely made_alike);
      pending_are =
          pending
          ∙ ap (filter (λ (i : PendingItem). not (eqb id i.id)))
          (pending_at s claims entries old desk old_seen)
          ∙ gone_pending s old.journal claims client id is.found.tick is.found.offset
          ∙ sym (at_seen s taken old.journal new seen journal_is);
      last_is = last ∙ last_at s claims entries old desk old_seen
          ∙ ap (option_map shown)
          (gone_last s old.journal claims client id is.found.tick is.found.offset is.found
          (one_of s claims old.journal (legal_at s claims entries old desk)) back.0 back.1 back.2)
          ∙ sym (last_seen s taken old.journal new seen journal_is);
      next_is =
          sym (ap next_id journal_is
          ∙ omega (
            arith,
            sum_by-append (λ (c : JournalCall). cond (is_activation c.request) 1 0) old.journal
                (taken ∷ []),
            next,
            desk.next_is,
          ));
      once =
          subst IsHeldOnce (sym pending)
          (once_filtered (λ (i : PendingItem). not (eqb id i.id)) old.pending desk.once);
    }

gone_entries : (s : SetupParts) (claims client id : ℕ) {entries : List Entry} (list : List Entry)
    (p : BookStateParts) (request : Request) (m : Moment) (made : List Entry)
    → (is : IsGone s claims client id p.journal entries request m made)
    → map (kept_entry s list claims is.found.tick is.found.offset) (action_of is.found.request)
    ≡ call_entries s p.journal list (journal_call claims client 0 m.tick m.offset (Delete id))
gone_entries s claims client id list p request m made is =
    ap (λ (n : Moment). map (kept_entry s list claims n.tick n.offset) (action_of is.found.request))
    (sym is.moment_is)
    ∙ ap (λ (o : Option JournalCall).
    map (kept_entry s list claims m.tick m.offset) (option_map_or (λ c. action_of c.request) o [])) (sym is.is)

-- what an accepted deletion makes
pub gone_decided : (s : SetupParts) (claims client id : ℕ) (entries : List Entry)
    (p : BookStateParts)
    (request : Request) (m : Moment) (made : List Entry) (call : JournalCall)
    → IsDesk s claims entries p → p.seen ≡ claims
    → IsGone s claims client id p.journal entries request m made
    → call ≡ journal_call claims client 0 m.tick m.offset request
    → IsDecided s claims entries p client request (record {
      reply = Deleted id;
      made =
          Some (record {
            call = call;
            entries = made;
            item = None;
            places = 0;
            settling = record { takes = Some id; last = p.last; next = p.next };
          });
    })
gone_decided s claims client id entries p request m made call desk at is call_is = record {
  reply_is = sym (gone_reply s claims client id p.journal entries request m made is);
  call_is =
      ap Some call_is ∙ sym (gone_call s claims client id p.journal entries request m made is);
  made_is =
      made_of s claims entries p (record {
        call = call;
        entries = made;
        item = None;
        places = 0;
        settling = record { takes = Some id; last = p.last; next = p.next };
      })
      (ap (λ (c : JournalCall). c.at) call_is)
      (is.made_is ∙ gone_entries s claims client id entries p request m made is
      ∙ sym (ap (call_entries s p.journal entries)
      (call_is ∙ ap (journal_call claims client 0 m.tick m.offset) is.asks)))
      (is.made_is
      ∙ kept_alike s p.from claims is.found.tick is.found.offset entries p.journal (action_of is.found.request)
      (has_outputs s desk.setup) desk.alike (since_at s claims entries p desk)
      (item_known s claims entries p id (item_of is.found) desk
      (sym (ap (option_map item_of) is.is)))
      ∙ gone_entries s claims client id (entries_of s p.journal) p request m made is
      ∙ sym (ap (call_entries s p.journal (entries_of s p.journal))
      (call_is ∙ ap (journal_call claims client 0 m.tick m.offset) is.asks)))
      (gone_desk s claims client id entries (entries ++ made) p
      (settled (staged p call None)
      (record { takes = Some id; last = p.last; next = p.next })) request m made
      call desk is call_is refl refl
      (ap (filter (λ (i : PendingItem). not (eqb id i.id))) (append-nil p.pending)) at at refl
      refl refl)
      (sym (ap places_of (ap (λ (c : JournalCall). c.request) call_is ∙ is.asks)))
      (omega arith)
      (omega (
        arith,
        ap length is.made_is,
        length-map (action_of is.found.request)
            (kept_entry s entries claims is.found.tick is.found.offset),
        ap places_kept
            (ap (filter (λ (i : PendingItem). not (eqb id i.id))) (append-nil p.pending)),
        places_less id (item_of is.found) p.pending
            (gone_item s claims client id entries p request m made desk at is),
      ));
}
