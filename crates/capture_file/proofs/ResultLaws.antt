-- The forms of a result's records are lawful, and their bytes are the same on each device.
use Rattle.std.proofs.Common.{◌≡◌, ℕ, ◌+◌, Bool, List, [], ◌∷◌, ◌++◌, length, refl, ap}
use Rattle.std.proofs.Common.{append_assoc, arith}
use Rattle.std.specs.List.{flat_map}
use Rattle.std.proofs.lemmas.List.{length-append}
use Rattle.std.proofs.lemmas.List.Concat.{flat_map-cons}
use Rattle.byteorder.specs.Endian.{big_bytes}
use Rattle.io_caps.specs.declared.device.DeviceParts.{DeviceParts}
use Rattle.book_words.specs.declared.history.ClaimItem.{ClaimItem}
use Rattle.book_words.specs.declared.history.ReplyItem.{ReplyItem}
use Rattle.book_words.specs.declared.history.Said.{Said}
use Rattle.book_words.specs.declared.history.Said.TheVariants.{Plain, Http}
use Rattle.book_words.specs.declared.replies.Refusal.TheVariants.{Empty, Unknown, BadChannel}
use Rattle.book_words.specs.declared.replies.Refusal.TheVariants.{Locked, Row, Time, NotPending}
use Rattle.book_words.specs.declared.replies.Reply.{Reply}
use Rattle.book_words.specs.declared.replies.Reply.TheVariants.{Activated, Scheduled, Deleted}
use Rattle.book_words.specs.declared.replies.Reply.TheVariants.{Active, Pending, Refused}
use Rattle.exact_text.specs.Forms.{number_text}
use Rattle.exact_text.specs.Spellings.{record_text}
use Rattle.exact_text.proofs.FieldLaws.{wide8}
use Rattle.exact_text.proofs.FormLaws.{Lawful, Nothing, Tagged, byte_law, number_law, many_law}
use Rattle.exact_text.proofs.FormLaws.{left_law, then_law, struct_law, variant_tagged}
use Rattle.exact_text.proofs.FormLaws.{no_form_tagged, choose_tagged, tagged_law}
use Rattle.exact_text.proofs.FormLengths.{length-number}
use Rattle.capture_file.specs.declared.entries.ResultItem.{ResultItem}
use Rattle.capture_file.specs.declared.entries.ResultItem.TheVariants.{Claim, Call, Reply as AReply}
use Rattle.capture_file.specs.declared.entries.ResultItem.TheVariants.{End}
use Rattle.capture_file.specs.Tags.{claim_tag, call_tag, reply_tag, http_form, plain_form}
use Rattle.capture_file.specs.declared.format.Format.{Format}
use Rattle.capture_file.specs.Device.{flag}
use Rattle.capture_file.specs.Replies.{rows, view, reply as plain_reply}
use Rattle.capture_file.specs.Records.{if_claim, if_call, if_reply}
use Rattle.capture_file.specs.Result.{claim_made, claim, call_made, call, form_of, if_plain}
use Rattle.capture_file.specs.Result.{if_http, said, reply_made, reply, result_tag, widths_of}
use Rattle.capture_file.specs.Result.{result_body, result_item, bytes_of}
use Rattle.capture_file.specs.Parts.{claim_bytes}
use Rattle.capture_file.proofs.FormatLaws.{moment_law}
use Rattle.capture_file.proofs.RequestLaws.{request_law}
use Rattle.capture_file.proofs.ReplyLaws.{reply_law as plain_reply_law}
use Rattle.capture_file.proofs.DeviceLaws.{flag_law}

said_law : (format : Format) (widths : List ℕ) → Lawful Nothing (said format widths)
unfolding said
said_law format widths = tagged_law (λ form.
    choose_tagged (variant_tagged form_of plain_form (λ r. Plain r) if_plain
    (plain_reply_law format widths) (λ r. refl) (λ r. refl)) (
    choose_tagged (variant_tagged form_of http_form (λ bytes. Http bytes) if_http left_law
    (λ r. refl) (λ r. refl)) (no_form_tagged form_of form)))

claim_law : (inputs : ℕ) → Lawful Nothing (claim inputs)
unfolding claim
claim_law inputs = struct_law _ claim_made
    (then_law (number_law 8 wide8) (then_law (many_law inputs flag_law) left_law)) (λ p fits. refl)
    (λ c fits. refl)

call_law : (format : Format) → Lawful Nothing (call format)
unfolding call
call_law format = struct_law _ call_made
    (then_law (number_law 8 wide8)
    (then_law byte_law (then_law (number_law 8 wide8) (then_law (moment_law format) request_law))))
    (λ p fits. refl) (λ c fits. refl)

reply_law : (format : Format) (widths : List ℕ) → Lawful Nothing (reply format widths)
unfolding reply
reply_law format widths = struct_law _ reply_made
    (then_law byte_law (then_law (number_law 8 wide8)
    (then_law (number_law 8 wide8) (said_law format widths)))) (λ p fits. refl) (λ r fits. refl)

-- what a record of a result is read as is spelled so, and what is spelled so is read again
pub result_law : (format : Format) (d : DeviceParts) (t : ℕ)
    → Tagged Nothing result_tag t (result_body format d t)
unfolding result_body
result_law format d t =
    choose_tagged (variant_tagged result_tag claim_tag (λ c. Claim c) if_claim
    (claim_law (length d.inputs)) (λ c. refl) (λ c. refl)) (
    choose_tagged (variant_tagged result_tag call_tag (λ c. Call c) if_call (call_law format) (λ c. refl)
    (λ c. refl)) (
    choose_tagged (variant_tagged result_tag reply_tag (λ r. AReply r) if_reply
    (reply_law format (widths_of d)) (λ r. refl) (λ r. refl)) (no_form_tagged result_tag t)))

-- ---- the same bytes on each device

pub plain_same : (format : Format) (widths : List ℕ) (r : Reply)
    → (plain_reply format widths).text r ≡ (plain_reply format []).text r
unfolding plain_reply view rows
plain_same format widths (Activated id tick offset) = refl
plain_same format widths (Scheduled id tick offset) = refl
plain_same format widths (Deleted id) = refl
plain_same format widths (Active v) = refl
plain_same format widths (Pending items) = refl
plain_same format widths (Refused Empty) = refl
plain_same format widths (Refused (Unknown output)) = refl
plain_same format widths (Refused (BadChannel output channel)) = refl
plain_same format widths (Refused (Locked output)) = refl
plain_same format widths (Refused (Row output fault)) = refl
plain_same format widths (Refused Time) = refl
plain_same format widths (Refused (NotPending id)) = refl

said_same : (format : Format) (widths : List ℕ) (s : Said)
    → (said format widths).text s ≡ (said format []).text s
unfolding said
said_same format widths (Http bytes) = refl
said_same format widths (Plain r) =
    ap (λ (z : List ℕ). plain_form ∷ z) (plain_same format widths r)

pub reply_same : (format : Format) (widths : List ℕ) (r : ReplyItem)
    → (reply format widths).text r ≡ (reply format []).text r
unfolding reply
reply_same format widths r =
    ap (λ (z : List ℕ). (r.client ∷ [])
    ++ (number_text 8 r.stamp.calls ++ (number_text 8 r.stamp.claims ++ z)))
    (said_same format widths r.said)

pub claim_same : (inputs : ℕ) (c : ClaimItem) → (claim inputs).text c ≡ (claim 0).text c
unfolding claim
claim_same inputs c = refl

pub bytes_same : (format : Format) (d : DeviceParts) (x : ResultItem)
    → (result_item format d).text x ≡ bytes_of format x
unfolding result_body
bytes_same format d (Claim c) =
    ap (λ (z : List ℕ). record_text claim_tag z) (claim_same (length d.inputs) c)
bytes_same format d (Call c) = refl
bytes_same format d End = refl
bytes_same format d (AReply r) =
    ap (λ (z : List ℕ). record_text reply_tag z) (reply_same format (widths_of d) r)

-- ---- claims

flags_long : (flags : List Bool) → length (flat_map flag.text flags) ≡ length flags
unfolding flag
flags_long [] = refl
flags_long (b ∷ flags) = let e = ap length (flat_map-cons flag.text b flags) in
    omega (arith, e, flags_long flags)

pub length-claim : (c : ClaimItem)
    → length c.found + length c.packet + 8 ≡ length ((claim 0).text c)
unfolding claim
length-claim c =
    omega (
      arith,
      length-append (number_text 8 c.k) (flat_map flag.text c.found ++ c.packet),
      length-append (flat_map flag.text c.found) c.packet,
      length-number 8 c.k,
      flags_long c.found,
    )

pub claim_joined : (out : List ℕ) (c : ClaimItem) (n : ℕ) → n ≡ length ((claim 0).text c)
    → ((((out ++ claim_tag ∷ []) ++ big_bytes 4 n) ++ number_text 8 c.k)
    ++ flat_map flag.text c.found) ++ c.packet ≡ out ++ claim_bytes c
unfolding claim
claim_joined out c n e = rw (e, append_assoc, append_assoc, append_assoc, append_assoc) refl
