-- Parts of a history, as they are written. (This project's own.)
use Rattle.std.specs.Prelude.{ℕ, ◌+◌, ◌<◌, ◌^◌, Bool, List, [], ◌∷◌, ◌++◌, length}
use Rattle.byteorder.specs.Endian.{big_bytes}
use Rattle.std.specs.List.{AllByRecursion, flat_map}
use Rattle.book_words.specs.declared.calls.JournalCall.{JournalCall}
use Rattle.book_words.specs.declared.history.ClaimItem.{ClaimItem}
use Rattle.book_words.specs.declared.history.ReplyItem.{ReplyItem}
use Rattle.book_words.specs.declared.history.Said.{Said}
use Rattle.book_words.specs.declared.history.Said.TheVariants.{Plain, Http}
use Rattle.book_words.specs.History.{history_of}
use Rattle.capture_file.specs.declared.entries.ResultItem.TheVariants.{Call, Reply as AReply}
use Rattle.exact_text.specs.Forms.{number_text}
use Rattle.exact_text.specs.Spellings.{record_text}
use Rattle.capture_file.specs.Device.{flag}
use Rattle.capture_file.specs.Tags.{claim_tag}
use Rattle.capture_file.specs.Replies.{HoldsReply}
use Rattle.capture_file.specs.Records.{calls_at, replies_at, claim_at, records_from}
use Rattle.capture_file.specs.declared.format.Format.{Format}
use Rattle.capture_file.specs.Result.{claim, reply, bytes_of, FitsCall}
use Rattle.capture_file.specs.Runs.{IsRisingFrom, IsFromOn}

-- the bytes of a call's record
abbrev pub call_bytes : Format → JournalCall → List ℕ
call_bytes format c = bytes_of format (Call c)

-- the bytes of a reply's record
abbrev pub reply_bytes : Format → ReplyItem → List ℕ
reply_bytes format r = bytes_of format (AReply r)

-- the bytes of a claim's record, which are the same in each format
abbrev pub claim_bytes : ClaimItem → List ℕ
claim_bytes c = record_text claim_tag ((claim 0).text c)

-- The bytes of what stands between two claims, at a number of claims: the calls that were accepted
-- there, and the replies that were given there.
abbrev pub between_bytes : Format → ℕ → List JournalCall → List ReplyItem → List ℕ
between_bytes format number calls replies =
    flat_map (call_bytes format) (calls_at number calls)
    ++ flat_map (reply_bytes format) (replies_at number replies)

-- the bytes of what stands at a number of claims: what stands in front of the claim, and the claim
abbrev pub bytes_at : Format → ℕ → List JournalCall → List ReplyItem → List ClaimItem → List ℕ
bytes_at format number calls replies claims =
    between_bytes format number calls replies ++ flat_map claim_bytes (claim_at number claims)

-- The front of a claim's record, which is all of it but the packet, of a given number of bytes:
-- tag, length, the claim's number, and a flag for each input.
abbrev pub claim_front : ℕ → List Bool → ℕ → List ℕ
claim_front k found len =
    claim_tag ∷ (big_bytes 4 (length found + len + 8)
    ++ (number_text 8 k ++ flat_map flag.text found))

-- the bytes of what stands at consecutive numbers of claims, from one on
abbrev pub range_bytes : Format → ℕ → ℕ → List JournalCall → List ReplyItem → List ClaimItem
    → List ℕ
range_bytes format from count calls replies claims =
    flat_map (bytes_of format) (records_from (history_of claims calls replies) from count)

-- what was said fits its fields
abbrev pub HoldsSaid : Format → Said → Type 0
HoldsSaid format (Plain reply) = HoldsReply format reply
HoldsSaid format (Http bytes) = Unit {0}

-- a record can hold the reply
abbrev pub HoldsItem : Format → ReplyItem → Type 0
HoldsItem format r = HoldsSaid format r.said × (length ((reply format []).text r) < 2 ^ 32)

-- a record can hold the claim
abbrev pub IsShortClaim : ClaimItem → Type 0
IsShortClaim c = length c.found + length c.packet + 8 < 2 ^ 32

-- calls and replies from a number of claims on, in order, each of which a record can hold
pub record AreLeft (format : Format) (number : ℕ) (calls : List JournalCall)
    (replies : List ReplyItem) : Type 0 where
  pub calls_rise : IsRisingFrom (λ c. c.at) number calls
  pub replies_rise : IsRisingFrom (λ r. r.stamp.claims) number replies
  pub calls_fit : AllByRecursion (FitsCall format) calls
  pub replies_fit : AllByRecursion (HoldsItem format) replies

-- calls, replies and claims from a number of claims on, in order, each of which a record can hold
pub record IsLeft (format : Format) (number : ℕ) (calls : List JournalCall)
    (replies : List ReplyItem) (claims : List ClaimItem) : Type 0 where
  pub between : AreLeft format number calls replies
  pub claims_rise : IsRisingFrom (λ c. c.k) number claims
  pub claims_fit : AllByRecursion IsShortClaim claims

-- what is held back: the calls and replies from a number of claims on
pub record AreHeld (number : ℕ) (calls : List JournalCall) (replies : List ReplyItem)
    (calls_held : List JournalCall) (replies_held : List ReplyItem) : Type 0 where
  pub later_calls : IsFromOn (λ c. c.at) number calls calls_held
  pub later_replies : IsFromOn (λ r. r.stamp.claims) number replies replies_held

-- what is held back: the calls, replies and claims from a number of claims on
pub record IsHeld (number : ℕ) (calls : List JournalCall) (replies : List ReplyItem)
    (claims : List ClaimItem) (calls_held : List JournalCall) (replies_held : List ReplyItem)
    (claims_held : List ClaimItem) : Type 0 where
  pub between : AreHeld number calls replies calls_held replies_held
  pub later_claims : IsFromOn (λ c. c.k) number claims claims_held
