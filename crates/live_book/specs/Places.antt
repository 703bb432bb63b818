-- The places of a table, of which each map entry takes one. (This project's own.)
use Rattle.std.specs.Prelude.{ℕ, ◌+◌, ◌*◌, ◌||◌, nat_le, cond, Bool, false, List, length, map}
use Rattle.std.specs.Prelude.{replicate, slice_index_or, slice_set, sum_by}
use Rattle.std.specs.Option.{option_map_or}
use Rattle.io_caps.specs.declared.limits.TheConstants.{CLIENTS, PLACES}
use Rattle.map_entry.specs.Setup.{SetupParts}
use Rattle.book_words.specs.declared.calls.JournalCall.{JournalCall}
use Rattle.book_words.specs.declared.replies.Reply.{Reply}
use Rattle.book_words.specs.declared.requests.Request.{Request}
use Rattle.plain_book.specs.Book.{call_of}
use Rattle.plain_book.specs.Pending.{pending_of}
use Rattle.plain_book.specs.Places.{places_kept, places_of}
use Rattle.book_words.specs.Replies.{item_of}

-- what contracts see of them: how many are used; how many are set aside for a client's next
-- request, which are enough for any; and for whom some are
pub record PlacesFace : Type 0 where
  pub used : ℕ
  pub each : ℕ
  pub aside : List Bool

-- whether some are set aside for a client
abbrev pub is_aside : PlacesFace → ℕ → Bool
is_aside p client = slice_index_or p.aside client false

-- how many are set aside
abbrev pub aside_sum : ℕ → List Bool → ℕ
aside_sum each aside = sum_by (λ b. cond b each 0) aside

-- for a client some are set aside, or none
abbrev pub with_aside : PlacesFace → ℕ → Bool → PlacesFace
with_aside p client b = record p { aside = slice_set p.aside client b }

-- places are set aside for a client, or enough are left
abbrev pub may_reserve : PlacesFace → ℕ → Bool
may_reserve p client =
    is_aside p client || nat_le (p.used + (aside_sum p.each p.aside + p.each)) PLACES

-- an answer to a client took a number of places: those set aside for it are no longer so
abbrev pub spent : PlacesFace → ℕ → ℕ → PlacesFace
spent p client more =
    record { used = p.used + more; each = p.each; aside = slice_set p.aside client false }

-- nothing is set aside
abbrev pub none_aside : List Bool
none_aside = replicate CLIENTS false

-- the given number of places is used, and none is set aside
abbrev pub new_places : SetupParts → ℕ → PlacesFace
new_places s used =
    record { used = used; each = 2 * length s.device.outputs; aside = none_aside }

-- the places that a table's first entries use: one for each output, and two for each output that a
-- pending activation names, since it may be deleted
abbrev pub places_first : SetupParts → List JournalCall → ℕ → ℕ
places_first s journal claims =
    length s.device.outputs + 2 * places_kept (map item_of (pending_of s journal claims))

-- the places of calls
abbrev pub places_by : List JournalCall → ℕ
places_by calls = sum_by (λ call. places_of call.request) calls

-- the places of the call that an answer makes
abbrev pub answer_places : SetupParts → List JournalCall → ℕ → ℕ → Request → Reply → ℕ
answer_places s before client claims request reply =
    option_map_or (λ call. places_of call.request) (call_of s before client claims request reply) 0
