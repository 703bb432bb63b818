use Rattle.std.proofs.Common.{◌≡◌, ℕ, ◌+◌, ◌<◌, ◌≤◌, Bool, true, false, List, [], ◌∷◌, ◌++◌}
use Rattle.std.proofs.Common.{length, refl, sym, ap, inl, inr, arith}
use Rattle.std.specs.List.{AllPairs}
use Rattle.std.proofs.lemmas.List.{length-append}
use Rattle.std.proofs.lemmas.List.Elements.{All-from_recursion}
use Rattle.std.proofs.lemmas.List.Kept.{AllPairs-cons}
use Rattle.io_caps.specs.Device.{IsDevice}
use Rattle.io_caps.specs.declared.device.DeviceParts.{DeviceParts}
use Rattle.book_words.specs.declared.calls.JournalCall.{JournalCall}
use Rattle.book_words.specs.declared.history.ClaimItem.{ClaimItem}
use Rattle.book_words.specs.declared.history.ReplyItem.{ReplyItem}
use Rattle.book_words.specs.declared.history.Said.TheVariants.{Http}
use Rattle.book_words.specs.declared.requests.Request.{Request}
use Rattle.book_words.specs.declared.requests.Request.TheVariants.{Active, Pending}
use Rattle.book_words.specs.Calls.{journal_call}
use Rattle.book_words.specs.History.{stamp, claim_item, reply_item, history_of, IsWhole}
use Rattle.exact_text.specs.Forms.{number_text}
use Rattle.exact_text.proofs.FormLengths.{length-number}
use Rattle.capture_file.specs.Device.{flag}
use Rattle.capture_file.specs.Requests.{request}
use Rattle.capture_file.specs.Result.{call, claim, reply, said}
use Rattle.capture_file.specs.Result.{FitsCall, FitsClaim, FitsHistory, FitsReply}
use Rattle.capture_file.specs.declared.format.Format.TheVariants.{One}
use Rattle.capture_file.proofs.FormatLaws.{moment_fits}
use Rattle.capture_file.proofs.ResultLaws.{claim_same, length-claim}
use Rattle.capture_file.proofs.tests.three_claims.Goals as goal

active_fits : request.Fits Active
unfolding request
active_fits = (
  omega arith,
  inr (
    λ e. omega (arith, e),
    inr (
      λ e. omega (arith, e),
      inr (
        λ e. omega (arith, e),
        inr (λ e. omega (arith, e), inl (refl, refl)),
      ),
    ),
  ),
)

pending_fits : request.Fits Pending
unfolding request
pending_fits = (
  omega arith,
  inr (
    λ e. omega (arith, e),
    inr (
      λ e. omega (arith, e),
      inr (
        λ e. omega (arith, e),
        inr (λ e. omega (arith, e), inr (λ e. omega (arith, e), inl (refl, refl))),
      ),
    ),
  ),
)

call_fits : (at client id tick : ℕ) (r : Request) → at + id + tick < 256 → client < 16
    → request.Fits r → FitsCall One (journal_call at client id tick 0 r)
unfolding call
call_fits at client id tick r few c fits = record {
  fits = (
    omega (arith, few),
    (
      omega (arith, c),
      (omega (arith, few), (moment_fits One tick 0 (omega (arith, few)) refl, fits)),
    ),
  );
  client = c;
}

flag_fits : (b : Bool) → flag.Fits b
unfolding flag
flag_fits true = (omega arith, refl)
flag_fits false = (omega arith, refl)

claim_fits : (d : DeviceParts) (k byte : ℕ) (b : Bool) → length d.inputs ≡ 1 → k < 256
    → FitsClaim d (claim_item k (b ∷ []) (byte ∷ []))
unfolding claim
claim_fits d k byte b one lt =
    let c = claim_item k (b ∷ []) (byte ∷ []) in
    record {
      fits = (omega (arith, lt), ((sym one, (flag_fits b, tt)), tt));
      short = omega (arith, ap length (claim_same (length d.inputs) c), length-claim c);
    }

reply_fits : (d : DeviceParts) (client calls claims byte : ℕ) → client < 16 → calls < 256
    → claims < 256 → FitsReply One d (reply_item client (stamp calls claims) (Http (byte ∷ [])))
unfolding reply said
reply_fits d client calls claims byte c n k =
    let rest = number_text 8 claims ++ (0 ∷ byte ∷ []) in
    record {
      fits = (
        omega (arith, c),
        (
          omega (arith, n),
          (
            omega (arith, k),
            (omega arith, inr (λ e. omega (arith, e), inl (refl, (tt, refl)))),
          ),
        ),
      );
      short = omega (
        arith,
        length-append (number_text 8 calls) rest,
        length-append (number_text 8 claims) (0 ∷ byte ∷ []),
        length-number 8 calls,
        length-number 8 claims,
      );
      client = c;
    }

abbrev claims : List ClaimItem
claims = claim_item 0 (true ∷ []) (17 ∷ []) ∷ claim_item 1 (false ∷ []) (18 ∷ [])
    ∷ claim_item 2 (true ∷ []) (19 ∷ []) ∷ []

abbrev calls : List JournalCall
calls = journal_call 0 2 1 5 0 Active ∷ journal_call 0 3 2 6 0 Pending
    ∷ journal_call 2 2 3 7 0 Active ∷ []

abbrev replies : List ReplyItem
replies = reply_item 2 (stamp 1 0) (Http (33 ∷ [])) ∷ reply_item 3 (stamp 2 1) (Http (34 ∷ []))
    ∷ reply_item 2 (stamp 3 3) (Http (35 ∷ [])) ∷ []

in_order : AllPairs (λ a b. a.at ≤ b.at) calls
in_order =
    let R = λ (a b : JournalCall). a.at ≤ b.at in
    let first = journal_call 0 2 1 5 0 Active in
    let second = journal_call 0 3 2 6 0 Pending in
    let third = journal_call 2 2 3 7 0 Active in
    AllPairs-cons R first (second ∷ third ∷ [])
    (All-from_recursion (R first) (second ∷ third ∷ []) (omega arith, (omega arith, tt)))
    (AllPairs-cons R second (third ∷ [])
    (All-from_recursion (R second) (third ∷ []) (omega arith, tt))
    (AllPairs-cons R third [] (All-from_recursion (R third) [] tt)
    (λ i j d less within. absurd (omega (arith, within)))))

whole : IsWhole (history_of claims calls replies)
whole = record {
  numbered = refl;
  calls = in_order;
  calls_within = All-from_recursion (λ (c : JournalCall). c.at ≤ 3) calls
      (omega arith, (omega arith, (omega arith, tt)));
  replies = ((refl, (refl, tt)), ((refl, tt), (tt, tt)));
  replies_within = All-from_recursion (λ (r : ReplyItem). r.stamp.claims ≤ 3) replies
      (omega arith, (omega arith, (omega arith, tt)));
}

fits : (d : DeviceParts) → IsDevice d → length d.inputs ≡ 1
    → FitsHistory One d (history_of claims calls replies)
fits d device one = record {
  device = device;
  whole = whole;
  claims = All-from_recursion (FitsClaim d) claims (
    claim_fits d 0 17 true one (omega arith),
    (claim_fits d 1 18 false one (omega arith), (claim_fits d 2 19 true one (omega arith), tt)),
  );
  journal = All-from_recursion (FitsCall One) calls (
    call_fits 0 2 1 5 Active (omega arith) (omega arith) active_fits,
    (
      call_fits 0 3 2 6 Pending (omega arith) (omega arith) pending_fits,
      (
        call_fits 2 2 3 7 Active (omega arith) (omega arith) active_fits,
        tt,
      ),
    ),
  );
  replies = All-from_recursion (FitsReply One d) replies (
    reply_fits d 2 1 0 33 (omega arith) (omega arith) (omega arith),
    (
      reply_fits d 3 2 1 34 (omega arith) (omega arith) (omega arith),
      (reply_fits d 2 3 3 35 (omega arith) (omega arith) (omega arith), tt),
    ),
  );
}

pub returns : goal.returns
returns c d device one =
    rw (
      c.in_ok-push-9.ensures.ok,
      c.in_ok-claim-3.ensures,
      c.in_ok-push-8.ensures.ok,
      c.in_ok-claim-2.ensures,
      c.in_ok-push-7.ensures.ok,
      c.in_ok-claim.ensures,
      c.new-claims.ensures,
      c.in_ok-push-6.ensures.ok,
      c.in_ok-response-3.ensures,
      c.in_ok-push-5.ensures.ok,
      c.in_ok-response-2.ensures,
      c.in_ok-push-4.ensures.ok,
      c.in_ok-response.ensures,
      c.new-replies.ensures,
      c.in_ok-push-3.ensures.ok,
      c.new-3.ensures,
      c.in_ok-push-2.ensures.ok,
      c.new-2.ensures,
      c.in_ok-push.ensures.ok,
      c.new.ensures,
      c.new-journal.ensures,
    )
    (fits d device one)
