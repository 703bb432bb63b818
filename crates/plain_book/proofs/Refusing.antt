-- What a book refuses, and what an activation that it does not refuse keeps to.
use Rattle.plain_book.specs.Time.{tick_after}
use Rattle.plain_book.specs.Book.{landing_offset}
use Rattle.std.proofs.Common.{◌≡◌, ℕ, ◌+◌, ◌*◌, ◌≤◌, false, ltb, List, length, map}
use Rattle.std.proofs.Common.{Option, Some, None, refl, sym, ap, ◌∙◌}
use Rattle.std.specs.Option.{option_map_or}
use Rattle.std.proofs.lemmas.Bool.{ltb-false}
use Rattle.io_caps.specs.declared.limits.TheConstants.{PLACES}
use Rattle.map_entry.specs.Action.{OutputChangeParts}
use Rattle.map_entry.specs.Setup.{SetupParts}
use Rattle.map_entry.specs.declared.entry.Entry.{Entry}
use Rattle.plain_book.specs.Book.{landing_tick, refusal_of, reply_of}
use Rattle.plain_book.specs.Desk.{IsDecided, IsDesk, BookStateParts, refusal_from}
use Rattle.plain_book.specs.Journal.{entries_of}
use Rattle.plain_book.specs.Pending.{next_id, pending_of}
use Rattle.book_words.specs.Replies.{accepted, item_of}
use Rattle.plain_book.specs.Time.{begin, is_over_from, is_time_over}
use Rattle.book_words.specs.declared.calls.JournalCall.{JournalCall}
use Rattle.book_words.specs.declared.replies.PendingItem.{PendingItem}
use Rattle.book_words.specs.declared.replies.Refusal.TheVariants.{Time}
use Rattle.book_words.specs.declared.replies.Refusal.{Refusal}
use Rattle.book_words.specs.declared.replies.Reply.TheVariants.{Refused}
use Rattle.book_words.specs.declared.requests.Request.TheVariants.{Activate}
use Rattle.book_words.specs.declared.requests.Request.{Request}
use Rattle.book_words.specs.declared.requests.When.{When}
use Rattle.plain_book.proofs.Alike.{refusal_alike}
use Rattle.plain_book.proofs.Keeping.{has_outputs, pending_at, since_at}
use Rattle.plain_book.proofs.Locks.{is_free, none_told}
use Rattle.plain_book.proofs.Looking.{refusal_is}

pub found_refusal : (s : SetupParts) (claims : ℕ) (entries : List Entry) (kept : BookStateParts)
    (when : When) (action : List OutputChangeParts) → IsDesk s claims entries kept
    → kept.seen ≡ claims
    → refusal_from s entries kept.pending claims when action
    ≡ refusal_of s kept.journal claims when action
found_refusal s claims entries kept when action desk at =
    refusal_alike s kept.from claims entries kept.pending kept.journal when action
    (has_outputs s desk.setup) desk.alike (since_at s claims entries kept desk)
    ∙ ap (λ (is : List PendingItem).
    refusal_from s (entries_of s kept.journal) is claims when action)
    (pending_at s claims entries kept desk at)
    ∙ refusal_is s kept.journal claims when action

pub in_time : (s : SetupParts) (journal : List JournalCall) (claims first : ℕ) (when : When)
    (action : List OutputChangeParts) → first ≡ tick_after s claims
    → refusal_of s journal claims when action ≡ None
    → is_over_from s first when ≡ false
in_time s journal claims first when action is free =
    ap (λ (t : ℕ). is_over_from s t when) is
    ∙ none_told (is_time_over s claims when) Time
    (is_free s journal claims when action free).in_time

refused_reply : (s : SetupParts) (journal : List JournalCall) (claims : ℕ) (when : When)
    (action : List OutputChangeParts) (refusal : Refusal)
    → refusal_of s journal claims when action ≡ Some refusal
    → reply_of s journal claims (Activate when action) ≡ Refused refusal
unfolding reply_of
refused_reply s journal claims when action refusal is =
    ap (λ (r : Option Refusal).
    option_map_or Refused r (accepted when (next_id journal) (landing_tick s claims when)
    (landing_offset s claims when))) is

pub refused_decided : (s : SetupParts) (claims client : ℕ) (entries : List Entry)
    (p : BookStateParts)
    (request : Request) (when : When) (action : List OutputChangeParts) (refusal : Refusal)
    → request ≡ Activate when action → refusal_of s p.journal claims when action ≡ Some refusal
    → IsDecided s claims entries p client request (record { reply = Refused refusal; made = None })
refused_decided s claims client entries p request when action refusal asks is = record {
  reply_is =
      sym (ap (reply_of s p.journal claims) asks
      ∙ refused_reply s p.journal claims when action refusal is);
  call_is = refl;
  made_is = tt;
}
