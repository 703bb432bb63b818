-- A history that was written is read again as its records.
use Rattle.std.proofs.Common.{◌≡◌, ℕ, ◌+◌, List, [], ◌∷◌, ◌++◌, length, drop, map, refl, arith, inl}
use Rattle.std.proofs.Common.{inr}
use Rattle.std.specs.Prelude.{All}
use Rattle.std.specs.List.{flat_map, range_with_len}
use Rattle.std.proofs.lemmas.List.Concat.{flat_map-cons}
use Rattle.std.proofs.lemmas.List.Elements.{All-append, All-filter, All-map, All-nil, All-weaker}
use Rattle.io_caps.specs.declared.device.DeviceParts.{DeviceParts}
use Rattle.book_words.specs.declared.calls.JournalCall.{JournalCall}
use Rattle.book_words.specs.declared.history.ClaimItem.{ClaimItem}
use Rattle.book_words.specs.declared.history.History.{History}
use Rattle.book_words.specs.declared.history.ReplyItem.{ReplyItem}
use Rattle.capture_file.specs.declared.entries.ResultItem.{ResultItem}
use Rattle.capture_file.specs.declared.entries.ResultItem.TheVariants.{Claim, Call, Reply}
use Rattle.capture_file.specs.declared.format.Format.{Format}
use Rattle.capture_file.specs.Formats.{result_magic}
use Rattle.capture_file.specs.Records.{calls_at, replies_at, claim_at, records_at, records_of}
use Rattle.capture_file.specs.Result.{result_body, result_item, result_text, FitsClaim, FitsCall}
use Rattle.capture_file.specs.Result.{FitsReply, FitsHistory}
use Rattle.capture_file.specs.ResultText.{IsClientThere, AreRecords, file_of, IsResultAt}
use Rattle.capture_file.proofs.Lengths.{call_short}

-- ---- one record

claim_fits : (format : Format) (d : DeviceParts) (c : ClaimItem) → FitsClaim d c
    → (result_item format d).Fits (Claim c)
unfolding result_body
claim_fits format d c h = (omega arith, (h.short, inl (refl, (h.fits, refl))))

call_fits : (format : Format) (d : DeviceParts) (c : JournalCall) → FitsCall format c
    → (result_item format d).Fits (Call c)
unfolding result_body
call_fits format d c h = (
  omega arith,
  (
    omega (arith, call_short format c h),
    inr (λ e. omega (arith, e), inl (refl, (h.fits, refl))),
  ),
)

reply_fits : (format : Format) (d : DeviceParts) (r : ReplyItem) → FitsReply format d r
    → (result_item format d).Fits (Reply r)
unfolding result_body
reply_fits format d r h = (
  omega arith,
  (
    h.short,
    inr (λ e. omega (arith, e), inr (λ e. omega (arith, e), inl (refl, (h.fits, refl)))),
  ),
)

-- ---- all of them

each_all : {X : Type 0} (P : X → Type 0) (f : ℕ → List X) (ks : List ℕ)
    → ((k : ℕ) → All P (f k)) → All P (flat_map f ks)
each_all P f [] each = All-nil P
each_all P f (k ∷ ks) each =
    rw (flat_map-cons f k ks)
    (All-append P (f k) (flat_map f ks) (each k) (each_all P f ks each))

-- what all parts of a history have, its records have
all_records : (P : ResultItem → Type 0) (h : History) → All (λ c. P (Call c)) h.journal
    → All (λ r. P (Reply r)) h.replies → All (λ c. P (Claim c)) h.claims → All P (records_of h)
unfolding records_at
all_records P h calls replies claims =
    each_all P (records_at h) (range_with_len 0 (length h.claims + 1)) (λ k.
    All-append P (map (λ c. Call c) (calls_at k h.journal))
    (map (λ r. Reply r) (replies_at k h.replies) ++ map (λ c. Claim c) (claim_at k h.claims))
    (All-map P (λ c. Call c) (calls_at k h.journal)
    (All-filter _ (λ (c : JournalCall). P (Call c)) h.journal calls))
    (All-append P (map (λ r. Reply r) (replies_at k h.replies))
    (map (λ c. Claim c) (claim_at k h.claims))
    (All-map P (λ r. Reply r) (replies_at k h.replies)
    (All-filter _ (λ (r : ReplyItem). P (Reply r)) h.replies replies))
    (All-map P (λ c. Claim c) (claim_at k h.claims)
    (All-filter _ (λ (c : ClaimItem). P (Claim c)) h.claims claims))))

are_records : (format : Format) (d : DeviceParts) (h : History) → FitsHistory format d h
    → AreRecords format d (records_of h)
are_records format d h fits = record {
  there = all_records IsClientThere h
      (All-weaker (FitsCall format) (λ c. IsClientThere (Call c)) (λ c is. is.client) h.journal
      fits.journal)
      (All-weaker (FitsReply format d) (λ r. IsClientThere (Reply r)) (λ r is. is.client) h.replies
      fits.replies)
      (All-weaker (FitsClaim d) (λ c. IsClientThere (Claim c)) (λ c is. tt) h.claims fits.claims);
  fit = all_records (result_item format d).Fits h
      (All-weaker (FitsCall format) (λ c. (result_item format d).Fits (Call c))
      (call_fits format d) h.journal fits.journal)
      (All-weaker (FitsReply format d) (λ r. (result_item format d).Fits (Reply r))
      (reply_fits format d) h.replies fits.replies)
      (All-weaker (FitsClaim d) (λ c. (result_item format d).Fits (Claim c))
      (claim_fits format d) h.claims fits.claims);
}

-- the text of a history is that of its records
pub written_is : (format : Format) (d : DeviceParts) (bytes : List ℕ) (start : ℕ) (h : History)
    → FitsHistory format d h → drop start bytes ≡ result_text format d h
    → IsResultAt format d bytes start (file_of format d start (records_of h))
unfolding result_text
written_is format d bytes start h fits text = record {
  items = records_of h;
  records = are_records format d h fits;
  text = text;
  places = refl;
}
