-- The records of a history, in the order of a result. (This project's own.)
use Rattle.std.specs.Prelude.{◌≡◌, ℕ, ◌+◌, ◌==◌, List, ◌++◌, length, map, Option, Some, None}
use Rattle.std.specs.List.{filter, filter_map, flat_map, range_with_len}
use Rattle.book_words.specs.declared.calls.JournalCall.{JournalCall}
use Rattle.book_words.specs.declared.history.ClaimItem.{ClaimItem}
use Rattle.book_words.specs.declared.history.ReplyItem.{ReplyItem}
use Rattle.book_words.specs.declared.history.History.{History}
use Rattle.capture_file.specs.declared.entries.ResultItem.{ResultItem}
use Rattle.capture_file.specs.declared.entries.ResultItem.TheVariants.{Claim, Call, Reply}

-- the calls that were accepted at a number of claims
abbrev pub calls_at : ℕ → List JournalCall → List JournalCall
calls_at claims journal = filter (λ c. c.at == claims) journal

-- the replies that were given at a number of claims
abbrev pub replies_at : ℕ → List ReplyItem → List ReplyItem
replies_at claims replies = filter (λ r. r.stamp.claims == claims) replies

-- the claim of a number, where there is one
abbrev pub claim_at : ℕ → List ClaimItem → List ClaimItem
claim_at number claims = filter (λ c. c.k == number) claims

-- the records at a number of claims: the calls that were accepted then, the replies that were given
-- then, and the claim
unfoldable pub records_at : History → ℕ → List ResultItem
records_at h claims =
    map (λ c. Call c) (calls_at claims h.journal)
    ++ (map (λ r. Reply r) (replies_at claims h.replies)
    ++ map (λ c. Claim c) (claim_at claims h.claims))

-- the records at consecutive numbers of claims, from one on
abbrev pub records_from : History → ℕ → ℕ → List ResultItem
records_from h from count = flat_map (records_at h) (range_with_len from count)

-- the records of a history: those at each number of claims, from 0 to the last one
abbrev pub records_of : History → List ResultItem
records_of h = records_from h 0 (length h.claims + 1)

-- ---- what records tell

-- the claim of a record
abbrev pub if_claim : ResultItem → Option ClaimItem
if_claim (Claim c) = Some c
if_claim other = None

-- the call of a record
abbrev pub if_call : ResultItem → Option JournalCall
if_call (Call c) = Some c
if_call other = None

-- the reply of a record
abbrev pub if_reply : ResultItem → Option ReplyItem
if_reply (Reply r) = Some r
if_reply other = None

-- Nothing of a history is left out of its records: they have all its calls, all its replies and all
-- its claims, each once and in order.
pub record ShowsAll (h : History) : Type 0 where
  pub calls : filter_map if_call (records_of h) ≡ h.journal
  pub replies : filter_map if_reply (records_of h) ≡ h.replies
  pub claims : filter_map if_claim (records_of h) ≡ h.claims
