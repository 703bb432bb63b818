-- A book at its beginning, and after one more claim.
use Rattle.std.proofs.lemmas.List.Elements.{All-from_recursion}
use Rattle.std.specs.Option.{unwrap_or, option_or}
use Rattle.std.proofs.Common.{◌≡◌, ℕ, ◌≤◌, List, [], length, Some, sym, ap, ◌∙◌, subst, arith, Bool}
use Rattle.std.proofs.Common.{None, ◌∷◌, map, inl, inr}
use Rattle.std.specs.Prelude.{All, slice_get, Option, filter, not}
use Rattle.std.proofs.lemmas.List.FromFn.{length-map-range_with_len}
use Rattle.std.proofs.lemmas.Bool.{cases_Bool}
use Rattle.std.proofs.lemmas.List.Sums.{sum_by-cons}
use Rattle.map_entry.specs.Entry.{IsEntryOk, due, entry_of, selected}
use Rattle.map_entry.specs.Setup.{IsSetup, SetupParts}
use Rattle.map_entry.specs.declared.cell.Cell.{Cell}
use Rattle.map_entry.specs.declared.entry.Entry.{Entry}
use Rattle.map_entry.proofs.Rows.{rows_long}
use Rattle.plain_book.specs.Desk.{IsDesk, BookStateParts, is_above, latest_item, looked_at}
use Rattle.plain_book.specs.Desk.{from_claims}
use Rattle.plain_book.specs.Journal.{base_entries, base_entry, entries_of}
use Rattle.plain_book.specs.Pending.{pending_of}
use Rattle.book_words.specs.Replies.{item_of}
use Rattle.plain_book.specs.Time.{begin}
use Rattle.book_words.specs.declared.replies.PendingItem.{PendingItem}
use Rattle.plain_book.proofs.Entries.{entries_none}
use Rattle.plain_book.proofs.Keeping.{has_outputs, legal_at, since_at}
use Rattle.plain_book.proofs.Looking.{last_later, still_pending}
use Rattle.plain_book.proofs.Places.{once_filtered}
use Rattle.plain_book.proofs.Prefixes.{no_calls}
use Rattle.plain_book.proofs.Sound.{entries_are, base_rows}
use Rattle.plain_book.specs.Ruling.{IsPruned}
use Rattle.plain_book.proofs.Waiting.{begin_rises}

-- the entry of a base row that was read
pub entry_is : (s : SetupParts) (o : ℕ) (row : List Cell) → slice_get s.rows o ≡ Some row
    → entry_of o s.device.base 0 row 0 ≡ base_entry s o
entry_is s o row read =
    ap (λ (r : Option (List Cell)). entry_of o s.device.base 0 (unwrap_or r []) 0) (sym read)

pub desk_new : (s : SetupParts) (entries : List Entry) (kept : BookStateParts) → IsSetup s
    → kept.from ≡ 0 → kept.journal ≡ [] → entries ≡ base_entries s → kept.seen ≡ 0
    → kept.pending ≡ [] → kept.last ≡ None → kept.next ≡ 1
    → IsDesk s 0 entries kept
desk_new s entries kept checked from journal entries_is seen pending last next = record {
  setup = checked;
  legal = rw journal (no_calls s kept.seen);
  since = omega (arith, from);
  looked = omega (arith, seen);
  alike = λ o t there low. ap (λ (es : List Entry). selected es o t)
      (entries_is ∙ sym (entries_none s) ∙ sym (ap (entries_of s) journal));
  rows =
      rw entries_is
      (All-from_recursion (IsEntryOk s.device) (base_entries s) (base_rows s checked));
  timely =
      rw entries_is
      (subst (All (λ e. begin s e.at ≤ due e)) (entries_none s)
      (entries_are s 0 [] checked (has_outputs s checked) (no_calls s 0)).timely);
  pending_are = rw journal pending;
  last_is = rw journal last;
  next_is = rw journal next;
  once = rw pending (λ o. omega arith);
}

-- after more claims
pub desk_raised : (s : SetupParts) (claims more : ℕ) (entries : List Entry) (kept : BookStateParts)
    → IsDesk s claims entries kept → claims ≤ more
    → IsDesk s more entries kept
desk_raised s claims more entries kept desk up = record {
  setup = desk.setup;
  legal = desk.legal;
  since = desk.since;
  looked = omega (arith, desk.looked, up);
  alike = desk.alike;
  rows = desk.rows;
  timely = desk.timely;
  pending_are = desk.pending_are;
  last_is = desk.last_is;
  next_is = desk.next_is;
  once = desk.once;
}

-- after it has looked at what is pending
pub desk_looked : (s : SetupParts) (claims : ℕ) (entries : List Entry) (p : BookStateParts)
    → IsDesk s claims entries p
    → IsDesk s claims entries (looked_at p (begin s claims) claims)
desk_looked s claims entries p desk =
    let some = has_outputs s desk.setup in
    record {
      setup = desk.setup;
      legal = legal_at s claims entries p desk;
      since = since_at s claims entries p desk;
      looked = omega arith;
      alike = desk.alike;
      rows = desk.rows;
      timely = desk.timely;
      pending_are =
          ap (filter (is_above (begin s claims))) desk.pending_are
          ∙ still_pending s p.journal p.seen claims some desk.looked;
      last_is =
          ap (λ (is : List PendingItem).
          option_or (latest_item (filter (λ item. not (is_above (begin s claims) item)) is)) p.last)
          desk.pending_are
          ∙ ap (option_or (latest_item (filter (λ item. not (is_above (begin s claims) item))
          (map item_of (pending_of s p.journal p.seen))))) desk.last_is
          ∙ last_later s p.journal p.seen claims some desk.legal desk.looked;
      next_is = desk.next_is;
      once = once_filtered (is_above (begin s claims)) p.pending desk.once;
    }

-- with fewer entries, which select the same from these claims on
pub desk_pruned : (s : SetupParts) (claims : ℕ) (entries fewer : List Entry) (p : BookStateParts)
    → IsDesk s claims entries p → p.seen ≡ claims → IsPruned (begin s claims) entries fewer
    → IsDesk s claims fewer (from_claims p claims)
desk_pruned s claims entries fewer p desk at pruned = record {
  setup = desk.setup;
  legal = desk.legal;
  since = omega (arith, at);
  looked = desk.looked;
  alike = λ o t there low. pruned.same o t low
      ∙ desk.alike o t there
      (omega (
        arith,
        low,
        begin_rises s p.from claims (has_outputs s desk.setup) (since_at s claims entries p desk),
      ));
  rows = pruned.rows s desk.rows;
  timely = pruned.timely s desk.timely;
  pending_are = desk.pending_are;
  last_is = desk.last_is;
  next_is = desk.next_is;
  once = desk.once;
}
