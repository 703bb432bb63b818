-- What an asked book answers, decides and keeps. (This project's own.)
use Rattle.std.specs.Prelude.{◌≡◌, ℕ, ◌+◌, ◌*◌, ◌<◌, ◌≤◌, List, [], ◌∷◌, ◌++◌, length, map, filter, find}
use Rattle.std.specs.Prelude.{take, sum_by, eqb, nat_lt, not, Bool, if◌then◌else◌, Option, Some}
use Rattle.std.specs.Prelude.{None, option_map, All, IfSome}
use Rattle.std.specs.List.{list_any}
use Rattle.std.specs.Option.{option_or, option_to_list}
use Rattle.map_entry.specs.Action.{OutputChangeParts}
use Rattle.map_entry.specs.Setup.{SetupParts, IsSetup}
use Rattle.map_entry.specs.declared.entry.Entry.{Entry}
use Rattle.map_entry.specs.Entry.{due}
use Rattle.map_entry.specs.Tick.{frame_key}
use Rattle.tai_time.specs.Time.{nanos_limit}
use Rattle.book_words.specs.declared.calls.JournalCall.{JournalCall}
use Rattle.book_words.specs.declared.replies.Activation.{Activation}
use Rattle.book_words.specs.declared.replies.PendingItem.{PendingItem}
use Rattle.book_words.specs.declared.replies.Refusal.{Refusal}
use Rattle.book_words.specs.declared.replies.Refusal.TheVariants.{Locked}
use Rattle.book_words.specs.declared.replies.Reply.{Reply}
use Rattle.book_words.specs.declared.requests.Request.{Request}
use Rattle.book_words.specs.declared.requests.Stamp.{Stamp}
use Rattle.book_words.specs.declared.requests.When.{When}
use Rattle.plain_book.specs.declared.kept.BookState.{BookState}
use Rattle.plain_book.specs.declared.kept.Acceptance.{Acceptance}
use Rattle.plain_book.specs.declared.kept.StateChange.{StateChange}
use Rattle.plain_book.specs.declared.kept.Decision.{Decision}
use Rattle.book_words.specs.Calls.{action_of, names}
use Rattle.plain_book.specs.declared.moments.Moment.{Moment}
use Rattle.plain_book.specs.Moments.{moment}
use Rattle.book_words.specs.Replies.{activation, activation_due, item_due, item_of, pending_item, shown}
use Rattle.plain_book.specs.Pending.{last_of, next_id, pending_of}
use Rattle.plain_book.specs.Journal.{call_entries, entries_of, kept_entry}
use Rattle.plain_book.specs.Places.{IsHeldOnce, places_kept, places_of}
use Rattle.plain_book.specs.Book.{first_some, empty_by, unknown_by, bad_channel_by, bad_row_at}
use Rattle.plain_book.specs.Book.{time_by, reply_of, call_of}
use Rattle.plain_book.specs.Legal.{IsLegalJournal}
use Rattle.plain_book.specs.Rows.{AreRows, AreTimely, SelectsAlike}
use Rattle.plain_book.specs.Time.{start}

-- ---- what is answered

-- The reply is the book's at the journal before and the stamp's claims; the stamp counts that
-- journal's calls; and the journal after it has the accepted call after it, where one was
-- accepted. No call of the journal was accepted at more claims.
pub record IsAsked (s : SetupParts) (before after : List JournalCall) (client : ℕ)
    (request : Request) (reply : Reply) (stamp : Stamp) : Type 0 where
  pub calls : stamp.calls ≡ length before
  pub reply_is : reply ≡ reply_of s before stamp.claims request
  pub journal :
      after ≡ before ++ option_to_list (call_of s before client stamp.claims request reply)
  pub legal : IsLegalJournal s stamp.claims before

-- the same at a number of claims, without what is said of the stamp and the journal before
pub record IsAnswer (s : SetupParts) (claims : ℕ) (before after : List JournalCall) (client : ℕ)
    (request : Request) (reply : Reply) : Type 0 where
  pub reply_is : reply ≡ reply_of s before claims request
  pub journal : after ≡ before ++ option_to_list (call_of s before client claims request reply)

-- what contracts see of a one-thread book
pub record DeskParts : Type 0 where
  pub setup : SetupParts
  pub claims : ℕ
  pub journal : List JournalCall

-- the book of a setup after a number of claims, with these calls
abbrev pub desk_parts : SetupParts → ℕ → List JournalCall → DeskParts
desk_parts setup claims journal = record { setup = setup; claims = claims; journal = journal }

-- ---- what is kept

-- what contracts see of what a book keeps beside its entries: the claims from which on these select
-- as the journal's; those up to which it has looked at what is pending; the journal; the pending
-- activations and the one that counted last, both at those claims; and the next number of an
-- activation
pub record BookStateParts : Type 0 where
  pub from : ℕ
  pub seen : ℕ
  pub journal : List JournalCall
  pub pending : List PendingItem
  pub last : Option Activation
  pub next : ℕ

-- the parts of what is kept
abbrev pub parts : BookState → BookStateParts
parts kept =
    record {
      from = kept.from;
      seen = kept.seen;
      journal = kept.journal;
      pending = kept.pending.items;
      last = kept.last;
      next = kept.next;
    }

-- What a book keeps over its entries, after a number of claims. They select as the journal's do
-- from some claims on; and no output is named twice by what is pending.
pub record IsDesk (s : SetupParts) (claims : ℕ) (entries : List Entry)
    (p : BookStateParts) : Type 0 where
  pub setup : IsSetup s
  pub legal : IsLegalJournal s p.seen p.journal
  pub since : p.from ≤ p.seen
  pub alike : SelectsAlike s p.from entries p.journal
  pub rows : AreRows s entries
  pub timely : AreTimely s entries
  pub looked : p.seen ≤ claims
  pub pending_are : p.pending ≡ map item_of (pending_of s p.journal p.seen)
  pub last_is : p.last ≡ option_map shown (last_of s p.journal p.seen)
  pub next_is : p.next ≡ next_id p.journal
  pub once : IsHeldOnce p.pending

-- ---- how claims and calls go into it

-- whether a pending activation counts from above a key
abbrev pub is_above : ℕ → PendingItem → Bool
is_above key item = nat_lt key (item_due item)

-- a pending activation as the active map shows it
abbrev pub shown_item : PendingItem → Activation
shown_item item = activation item.id item.when item.tick item.offset

-- it, or the one that was chosen of those after it: that one, unless it counts from an earlier key
abbrev pub later_item : PendingItem → Option Activation → Activation
later_item item None = shown_item item
later_item item (Some next) =
    if nat_lt (activation_due next) (item_due item) then shown_item item else next

-- the one that counts from the greatest key, and of several such the last one
abbrev pub latest_item : List PendingItem → Option Activation
latest_item [] = None
latest_item (item ∷ items) = Some (later_item item (latest_item items))

-- after a number of claims: the activations that count from a key or below are no longer pending,
-- and of them the one that counts last is shown
abbrev pub looked_at : BookStateParts → ℕ → ℕ → BookStateParts
looked_at p key claims =
    record {
      from = p.from;
      seen = claims;
      journal = p.journal;
      pending = filter (is_above key) p.pending;
      last = option_or (latest_item (filter (λ item. not (is_above key item)) p.pending)) p.last;
      next = p.next;
    }

-- with entries that select as the journal does from a number of claims on
abbrev pub from_claims : BookStateParts → ℕ → BookStateParts
from_claims p claims =
    record {
      from = claims;
      seen = p.seen;
      journal = p.journal;
      pending = p.pending;
      last = p.last;
      next = p.next;
    }

-- with a call put after the others, and what is pending of it
abbrev pub staged : BookStateParts → JournalCall → Option PendingItem → BookStateParts
staged p call item =
    record {
      from = p.from;
      seen = p.seen;
      journal = p.journal ++ call ∷ [];
      pending = p.pending ++ option_to_list item;
      last = p.last;
      next = p.next;
    }

-- a given number of its calls and of what is pending
abbrev pub cut : BookStateParts → ℕ → ℕ → BookStateParts
cut p calls items =
    record {
      from = p.from;
      seen = p.seen;
      journal = take calls p.journal;
      pending = take items p.pending;
      last = p.last;
      next = p.next;
    }

-- what is pending without the activation of an id that is taken back
abbrev pub taken_off : Option ℕ → List PendingItem → List PendingItem
taken_off None items = items
taken_off (Some id) items = filter (λ item. not (eqb id item.id)) items

-- with what is done once the call stands
abbrev pub settled : BookStateParts → StateChange → BookStateParts
settled p done =
    record {
      from = p.from;
      seen = p.seen;
      journal = p.journal;
      pending = taken_off done.takes p.pending;
      last = done.last;
      next = done.next;
    }

-- ---- what is decided

-- What new entries at a number of claims are: they say that they were published at these claims;
-- their outputs are there, and their rows pass the check; none counts from a tick that has begun;
-- and each counts from one that begins before the end of time.
pub record AreNewEntries (s : SetupParts) (claims : ℕ) (new : List Entry) : Type 0 where
  pub ats : All (λ e. e.at ≡ claims) new
  pub rows : AreRows s new
  pub timely : AreTimely s new
  pub starts : All (λ e. start s (due e) < nanos_limit) new

-- What an accepted request makes: entries that are those of its call, after the table's and after
-- the whole journal's, at these claims; and with all of it done the book is as before. The places
-- of the call, which are no more than two for each output, and those that were kept are enough for
-- them and for what is kept then.
pub record IsMade (s : SetupParts) (claims : ℕ) (entries : List Entry) (p : BookStateParts)
    (m : Acceptance) : Type 0 where
  pub at_is : m.call.at ≡ claims
  pub entries_are : m.entries ≡ call_entries s p.journal entries m.call
  pub whole_are : m.entries ≡ call_entries s p.journal (entries_of s p.journal) m.call
  pub fits : AreNewEntries s claims m.entries
  pub places_are : m.places ≡ places_of m.call.request
  pub few : m.places ≤ 2 * length s.device.outputs
  pub room :
      length m.entries + places_kept (settled (staged p m.call m.item) m.settling).pending
      ≤ m.places + places_kept p.pending
  pub after : IsDesk s claims (entries ++ m.entries) (settled (staged p m.call m.item) m.settling)

-- What is decided: the reply is the book's, and what is to be done is of the call that the reply
-- accepts, where it accepts one.
pub record IsDecided (s : SetupParts) (claims : ℕ) (entries : List Entry) (p : BookStateParts)
    (client : ℕ) (request : Request) (d : Decision) : Type 0 where
  pub reply_is : d.reply ≡ reply_of s p.journal claims request
  pub call_is : option_map (λ m. m.call) d.made ≡ call_of s p.journal client claims request d.reply
  pub made_is : IfSome d.made (IsMade s claims entries p)

-- ---- how a book finds what it decides, over what it keeps at these claims

-- whether a pending activation names an output
abbrev pub holds_item : ℕ → PendingItem → Bool
holds_item output item = names output item.action

-- the output of a change is named by a pending activation
abbrev pub held_at : List PendingItem → OutputChangeParts → Option Refusal
held_at pending c = if list_any (holds_item c.output) pending then Some (Locked c.output) else None

-- the first refusal that a book finds
unfoldable pub refusal_from : SetupParts → List Entry → List PendingItem → ℕ → When
    → List OutputChangeParts → Option Refusal
refusal_from s entries pending claims when action =
    option_or (empty_by action)
    (option_or (unknown_by s.device action)
    (option_or (bad_channel_by s.device action)
    (option_or (first_some (held_at pending) action)
    (option_or (first_some (bad_row_at s entries claims action) action)
    (time_by s claims when)))))

-- the outputs and channels that an action names are there
pub record IsOpen (s : SetupParts) (action : List OutputChangeParts) : Type 0 where
  pub outputs : unknown_by s.device action ≡ None
  pub channels : bad_channel_by s.device action ≡ None

-- the pending activation of an id
abbrev pub item_at : ℕ → List PendingItem → Option PendingItem
item_at id pending = find (λ item. eqb item.id id) pending

-- what is pending of an accepted activation: it is, where it counts from above a key
abbrev pub item_above : ℕ → ℕ → When → ℕ → ℕ → List OutputChangeParts → Option PendingItem
item_above key id when tick offset action =
    if nat_lt key (frame_key tick offset) then Some (pending_item id when tick offset action)
    else None

-- the activation that counts last after an accepted one: that one, where it counts from the key or
-- below
abbrev pub last_behind : ℕ → ℕ → When → ℕ → ℕ → Option Activation → Option Activation
last_behind key id when tick offset last =
    if nat_lt key (frame_key tick offset) then last else Some (activation id when tick offset)

-- the frame of a tick from which a call counts that is taken back
abbrev pub moment_of : JournalCall → Moment
moment_of call = moment call.tick call.offset

-- that frame, and the entries that keep the call's outputs' rows
abbrev pub taken_by : SetupParts → List Entry → ℕ → JournalCall → Moment × List Entry
taken_by s entries claims call = (
  moment_of call,
  map (kept_entry s entries claims call.tick call.offset) (action_of call.request),
)
