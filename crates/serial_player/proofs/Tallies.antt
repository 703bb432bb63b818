-- The numbers of a journal's calls, and of the ticks from which they count, fit eight bytes.
use Rattle.std.proofs.Common.{◌≡◌, ℕ, ◌^◌, ◌<◌, List, length, arith}
use Rattle.std.proofs.lemmas.List.Sums.{count_by-le-length}
use Rattle.map_entry.specs.Setup.{IsSetup, SetupParts}
use Rattle.map_entry.specs.Tick.{tick_in}
use Rattle.tai_time.specs.Time.{nanos_limit}
use Rattle.book_words.specs.Calls.{call_due, is_activation}
use Rattle.book_words.specs.declared.calls.JournalCall.{JournalCall}
use Rattle.plain_book.specs.Legal.{IsLegalJournal}
use Rattle.plain_book.specs.Pending.{next_id}
use Rattle.plain_book.specs.Time.{start}
use Rattle.plain_book.proofs.Lists.{IsIn}
use Rattle.plain_book.proofs.Timing.{have_starts, key_below}
use Rattle.plain_book.proofs.Waiting.{ids}

-- the most calls that are held at once
abbrev pub IsHeld : List JournalCall → Type 0
IsHeld journal = length journal < 2 ^ 63

-- ---- ids

pub next_few : (journal : List JournalCall) → IsHeld journal → next_id journal < 256 ^ 8
next_few journal held =
    omega (arith, held, count_by-le-length (λ (c : JournalCall). is_activation c.request) journal)

pub id_fits : (s : SetupParts) (m : ℕ) (journal : List JournalCall) (call : JournalCall)
    → IsLegalJournal s m journal → IsHeld journal → IsIn call journal → call.id < 256 ^ 8
id_fits s m journal call legal held here = let low = (ids s m journal legal).given call here in
    omega (arith, low, next_few journal held)

-- ---- ticks

-- the tick of a key that begins before the end of time
pub key_fits : (s : SetupParts) (key : ℕ) → IsSetup s → start s key < nanos_limit
    → tick_in key < 256 ^ 8
key_fits s key is low = omega (arith, key_below s key is low)

-- the tick from which a call counts
pub tick_fits : (s : SetupParts) (m : ℕ) (journal : List JournalCall) (call : JournalCall)
    → IsSetup s → IsLegalJournal s m journal → IsIn call journal → call.tick < 256 ^ 8
tick_fits s m journal call is legal here =
    let low = key_below s (call_due call) is (have_starts s m journal legal call here) in
    omega (arith, low)
