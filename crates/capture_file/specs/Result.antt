-- How a history stands in a result. (This project's own.)
use Rattle.std.specs.Prelude.{All, ℕ, Bool, ◌<◌, ◌^◌, List, [], ◌++◌, length, map, codes, Option}
use Rattle.std.specs.Prelude.{Some, None}
use Rattle.std.specs.List.{flat_map}
use Rattle.io_caps.specs.Device.{IsDevice}
use Rattle.io_caps.specs.declared.device.DeviceParts.{DeviceParts}
use Rattle.io_caps.specs.declared.limits.TheConstants.{CLIENTS}
use Rattle.book_words.specs.declared.calls.JournalCall.{JournalCall}
use Rattle.book_words.specs.declared.history.ClaimItem.{ClaimItem}
use Rattle.book_words.specs.declared.history.ReplyItem.{ReplyItem}
use Rattle.book_words.specs.declared.history.Said.{Said}
use Rattle.book_words.specs.declared.history.Said.TheVariants.{Plain, Http}
use Rattle.book_words.specs.declared.history.History.{History}
use Rattle.book_words.specs.declared.replies.Reply.{Reply}
use Rattle.book_words.specs.declared.requests.Request.{Request}
use Rattle.book_words.specs.Calls.{journal_call}
use Rattle.book_words.specs.History.{stamp, claim_item, reply_item, IsWhole}
use Rattle.exact_text.specs.Spellings.{record_text}
use Rattle.exact_text.specs.Forms.{Form, byte, number, many_of, all_left, ◌▸◌, struct, variant}
use Rattle.exact_text.specs.Forms.{no_form, choose, tagged, in_record}
use Rattle.capture_file.specs.declared.entries.ResultItem.{ResultItem}
use Rattle.capture_file.specs.declared.entries.ResultItem.TheVariants.{Claim, Call, Reply as AReply}
use Rattle.capture_file.specs.declared.entries.ResultItem.TheVariants.{End}
use Rattle.capture_file.specs.Tags.{claim_tag, call_tag, reply_tag, end_tag, http_form, plain_form}
use Rattle.capture_file.specs.Device.{flag}
use Rattle.capture_file.specs.Items.{end_text}
use Rattle.capture_file.specs.declared.format.Format.{Format}
use Rattle.capture_file.specs.Formats.{moment, result_magic}
use Rattle.capture_file.specs.Requests.{request}
use Rattle.capture_file.specs.Replies.{reply as plain_reply}
use Rattle.capture_file.specs.Records.{if_claim, if_call, if_reply, records_of}

-- ---- claims

-- a claim by its fields
abbrev pub claim_made : ℕ × (List Bool × List ℕ) → ClaimItem
claim_made (k, (found, packet)) = claim_item k found packet

-- the claim's number, a flag for each input, and its packet
unfoldable pub claim : ℕ → Form ClaimItem
claim inputs = struct (number 8 ▸ many_of inputs flag ▸ all_left)
    (λ c. (c.k, (c.found, c.packet))) claim_made

-- ---- calls

-- a call by its fields
abbrev pub call_made : ℕ × (ℕ × (ℕ × ((ℕ × ℕ) × Request))) → JournalCall
call_made (at, (client, (id, ((tick, offset), request)))) =
    journal_call at client id tick offset request

-- claims at acceptance, client, id, moment, request
unfoldable pub call : Format → Form JournalCall
call format = struct (number 8 ▸ byte ▸ number 8 ▸ moment format ▸ request)
    (λ c. (c.at, (c.client, (c.id, ((c.tick, c.offset), c.request))))) call_made

-- ---- replies

-- the form of what was said
abbrev pub form_of : Said → ℕ
form_of (Plain r) = plain_form
form_of (Http bytes) = http_form

-- a plain reply
abbrev pub if_plain : Said → Option Reply
if_plain (Plain r) = Some r
if_plain (Http bytes) = None

-- the bytes of an HTTP response
abbrev pub if_http : Said → Option (List ℕ)
if_http (Http bytes) = Some bytes
if_http (Plain r) = None

-- the form, and what was said: a plain reply on a device with a given number of channels of each
-- output, or the bytes of an HTTP response
unfoldable pub said : Format → List ℕ → Form Said
said format widths = tagged form_of (λ form.
    choose form plain_form (variant (plain_reply format widths) (λ r. Plain r) if_plain) (
    choose form http_form (variant all_left (λ bytes. Http bytes) if_http) no_form))

-- a reply by its fields
abbrev pub reply_made : ℕ × (ℕ × (ℕ × Said)) → ReplyItem
reply_made (client, (calls, (claims, s))) = reply_item client (stamp calls claims) s

-- client, calls, claims, what was said
unfoldable pub reply : Format → List ℕ → Form ReplyItem
reply format widths = struct (byte ▸ number 8 ▸ number 8 ▸ said format widths)
    (λ r. (r.client, (r.stamp.calls, (r.stamp.claims, r.said)))) reply_made

-- ---- records

-- the tag of a record
abbrev pub result_tag : ResultItem → ℕ
result_tag (Claim c) = claim_tag
result_tag (Call c) = call_tag
result_tag (AReply r) = reply_tag
result_tag End = end_tag

-- how many channels each output of a device has
abbrev pub widths_of : DeviceParts → List ℕ
widths_of d = map (λ o. length o.labels) d.outputs

-- the body of a record of a result of this device before the last one: a claim, a call, or a reply
unfoldable pub result_body : Format → DeviceParts → ℕ → Form ResultItem
result_body format d tag =
    choose tag claim_tag (variant (claim (length d.inputs)) (λ c. Claim c) if_claim) (
    choose tag call_tag (variant (call format) (λ c. Call c) if_call) (
    choose tag reply_tag (variant (reply format (widths_of d)) (λ r. AReply r) if_reply) no_form))

-- a record of a result of this device before the last one
abbrev pub result_item : Format → DeviceParts → Form ResultItem
result_item format d = in_record result_tag (result_body format d)

-- the bytes of a record, which are the same on each device
abbrev pub bytes_of : Format → ResultItem → List ℕ
bytes_of format (Claim c) = record_text claim_tag ((claim 0).text c)
bytes_of format (Call c) = record_text call_tag ((call format).text c)
bytes_of format (AReply r) = record_text reply_tag ((reply format []).text r)
bytes_of format End = end_text

-- the text of a history: the magic, its records in order, and the last record
unfoldable pub result_text : Format → DeviceParts → History → List ℕ
result_text format d h =
    result_magic format ++ (flat_map (result_item format d).text (records_of h) ++ end_text)

-- ---- what can be written

-- a record of a result can hold this claim of the device
pub record FitsClaim (d : DeviceParts) (c : ClaimItem) : Type 0 where
  pub fits : (claim (length d.inputs)).Fits c
  pub short : length ((claim (length d.inputs)).text c) < 256 ^ 4

-- a record can hold this call, and its client's number is one
pub record FitsCall (format : Format) (c : JournalCall) : Type 0 where
  pub fits : (call format).Fits c
  pub client : c.client < CLIENTS

-- a record can hold this reply of the device, and its client's number is one
pub record FitsReply (format : Format) (d : DeviceParts) (r : ReplyItem) : Type 0 where
  pub fits : (reply format (widths_of d)).Fits r
  pub short : length ((reply format (widths_of d)).text r) < 256 ^ 4
  pub client : r.client < CLIENTS

-- a whole history of this device, which is within its limits; each part is what some record of a
-- result of the device is read as
pub record FitsHistory (format : Format) (d : DeviceParts) (h : History) : Type 0 where
  pub device : IsDevice d
  pub whole : IsWhole h
  pub claims : All (FitsClaim d) h.claims
  pub journal : All (FitsCall format) h.journal
  pub replies : All (FitsReply format d) h.replies
