-- Parts of a history, written one number of claims after the other, are its records.
use Rattle.std.proofs.Common.{◌≡◌, ℕ, zero, suc, ◌+◌, ◌-◌, ◌<◌, ◌≤◌, ◌||◌, Bool, true, false, List}
use Rattle.std.proofs.Common.{[], ◌∷◌, ◌++◌, length, map, Option, Some, None, refl, sym, ap, subst}
use Rattle.std.proofs.Common.{◌∙◌, append_assoc, arith}
use Rattle.std.specs.Prelude.{All}
use Rattle.std.specs.List.{AllByRecursion, AllPairs, filter_map, flat_map, range_with_len}
use Rattle.std.proofs.lemmas.Bool.{ltb-false}
use Rattle.std.proofs.lemmas.List.{append-nil}
use Rattle.std.proofs.lemmas.List.Concat.{flat_map-cons}
use Rattle.std.proofs.lemmas.List.Elements.{recursion_from_All, filter_map-append}
use Rattle.std.proofs.lemmas.Grind.{flat_map-append}
use Rattle.io_caps.specs.declared.device.DeviceParts.{DeviceParts}
use Rattle.book_words.specs.declared.calls.JournalCall.{JournalCall}
use Rattle.book_words.specs.declared.history.ClaimItem.{ClaimItem}
use Rattle.book_words.specs.declared.history.History.{History}
use Rattle.book_words.specs.declared.history.ReplyItem.{ReplyItem}
use Rattle.book_words.specs.History.{history_of, IsNoLater, AreInOrder, IsWhole}
use Rattle.capture_file.specs.declared.entries.ResultItem.{ResultItem}
use Rattle.capture_file.specs.declared.entries.ResultItem.TheVariants.{Claim, Call, Reply as AReply}
use Rattle.capture_file.specs.declared.format.Format.{Format}
use Rattle.capture_file.specs.Formats.{result_magic}
use Rattle.capture_file.specs.Items.{end_text}
use Rattle.capture_file.specs.Records.{calls_at, replies_at, claim_at, records_at, records_from}
use Rattle.capture_file.specs.Records.{records_of, if_claim, if_call, if_reply, ShowsAll}
use Rattle.capture_file.specs.Result.{result_item, result_text, bytes_of, widths_of}
use Rattle.capture_file.specs.Result.{FitsCall, FitsClaim, FitsReply, FitsHistory}
use Rattle.capture_file.specs.Runs.{IsRisingFrom}
use Rattle.capture_file.specs.Parts.{call_bytes, reply_bytes, claim_bytes, between_bytes, bytes_at}
use Rattle.capture_file.specs.Parts.{HoldsItem, IsShortClaim, AreLeft, AreHeld, IsLeft, IsHeld}
use Rattle.capture_file.proofs.Lengths.{holds_reply}
use Rattle.capture_file.proofs.ResultLaws.{bytes_same, claim_same, reply_same, length-claim}
use Rattle.capture_file.proofs.RunLaws.{rising_less, all_from_on, from_on_next, from_on_same}
use Rattle.capture_file.proofs.RunLaws.{from_on_fits, shown}

-- ---- numbers

pub range_more : (a n : ℕ) → range_with_len a (suc n) ≡ range_with_len a n ++ (a + n) ∷ []
range_more a zero = let e : a + 0 ≡ a = omega arith in rw e refl
range_more a (suc n) =
    let e : a + 1 + n ≡ a + suc n = omega arith in
    ap (λ (xs : List ℕ). a ∷ xs) (range_more (a + 1) n
    ∙ ap (λ (k : ℕ). range_with_len (a + 1) n ++ k ∷ []) e)

records_more : (h : History) (from n : ℕ)
    → records_from h from (suc n) ≡ records_from h from n ++ records_at h (from + n)
records_more h from n =
    ap (flat_map (records_at h)) (range_more from n)
    ∙ flat_map-append (records_at h) (range_with_len from n) ((from + n) ∷ [])
    ∙ ap (λ (z : List ResultItem). records_from h from n ++ z)
    (flat_map-cons (records_at h) (from + n) [] ∙ append-nil (records_at h (from + n)))

-- ---- bytes

map_bytes : {T : Type 0} (format : Format) (make : T → ResultItem) (xs : List T)
    → flat_map (bytes_of format) (map make xs) ≡ flat_map (λ x. bytes_of format (make x)) xs
map_bytes format make [] = refl
map_bytes {T} format make (x ∷ xs) =
    flat_map-cons (bytes_of format) (make x) (map make xs)
    ∙ ap (λ (z : List ℕ). bytes_of format (make x) ++ z) (map_bytes format make xs)
    ∙ sym (flat_map-cons (λ (y : T). bytes_of format (make y)) x xs)

pub number_bytes : (format : Format) (h : History) (n : ℕ)
    → flat_map (bytes_of format) (records_at h n)
    ≡ bytes_at format n h.journal h.replies h.claims
unfolding records_at
number_bytes format h n =
    let calls = map (λ (c : JournalCall). Call c) (calls_at n h.journal) in
    let replies = map (λ (r : ReplyItem). AReply r) (replies_at n h.replies) in
    let claims = map (λ (c : ClaimItem). Claim c) (claim_at n h.claims) in
    flat_map-append (bytes_of format) calls (replies ++ claims)
    ∙ ap (λ (z : List ℕ). flat_map (bytes_of format) calls ++ z)
    (flat_map-append (bytes_of format) replies claims)
    ∙ rw (
      map_bytes format (λ (c : JournalCall). Call c) (calls_at n h.journal),
      map_bytes format (λ (r : ReplyItem). AReply r) (replies_at n h.replies),
      map_bytes format (λ (c : ClaimItem). Claim c) (claim_at n h.claims),
    )
    (sym (append_assoc (flat_map (call_bytes format) (calls_at n h.journal))
    (flat_map (reply_bytes format) (replies_at n h.replies))
    (flat_map claim_bytes (claim_at n h.claims))))

-- what is written at one more number
pub bytes_more : (format : Format) (h : History) (from n : ℕ)
    → flat_map (bytes_of format) (records_from h from (suc n))
    ≡ flat_map (bytes_of format) (records_from h from n)
    ++ bytes_at format (from + n) h.journal h.replies h.claims
bytes_more format h from n =
    ap (flat_map (bytes_of format)) (records_more h from n)
    ∙ flat_map-append (bytes_of format) (records_from h from n) (records_at h (from + n))
    ∙ ap (λ (z : List ℕ). flat_map (bytes_of format) (records_from h from n) ++ z)
    (number_bytes format h (from + n))

-- ---- what is left

pub between_next : (n : ℕ) (calls x u : List JournalCall) (replies y v : List ReplyItem)
    → AreHeld n calls replies x y → AreHeld (n + 1) x y u v → AreHeld (n + 1) calls replies u v
between_next n calls x u replies y v h k = record {
  later_calls = from_on_next (λ (c : JournalCall). c.at) n calls x u h.later_calls k.later_calls;
  later_replies = from_on_next (λ (r : ReplyItem). r.stamp.claims) n replies y v h.later_replies
      k.later_replies;
}

pub held_next : (n : ℕ) (calls x u : List JournalCall) (replies y v : List ReplyItem)
    (claims z w : List ClaimItem)
    → IsHeld n calls replies claims x y z → IsHeld (n + 1) x y z u v w
    → IsHeld (n + 1) calls replies claims u v w
held_next n calls x u replies y v claims z w h k = record {
  between = between_next n calls x u replies y v h.between k.between;
  later_claims = from_on_next (λ (c : ClaimItem). c.k) n claims z w h.later_claims k.later_claims;
}

pub between_left : (format : Format) (from n : ℕ) (calls x : List JournalCall)
    (replies y : List ReplyItem) → AreLeft format from calls replies → AreHeld n calls replies x y
    → AreLeft format n x y
between_left format from n calls x replies y left h = record {
  calls_rise = h.later_calls.rising;
  replies_rise = h.later_replies.rising;
  calls_fit = from_on_fits (λ (c : JournalCall). c.at) n (FitsCall format) calls x h.later_calls
      left.calls_fit;
  replies_fit = from_on_fits (λ (r : ReplyItem). r.stamp.claims) n (HoldsItem format) replies y
      h.later_replies left.replies_fit;
}

pub held_left : (format : Format) (from n : ℕ) (calls x : List JournalCall)
    (replies y : List ReplyItem) (claims z : List ClaimItem)
    → IsLeft format from calls replies claims → IsHeld n calls replies claims x y z
    → IsLeft format n x y z
held_left format from n calls x replies y claims z left h = record {
  between = between_left format from n calls x replies y left.between h.between;
  claims_rise = h.later_claims.rising;
  claims_fit = from_on_fits (λ (c : ClaimItem). c.k) n IsShortClaim claims z h.later_claims
      left.claims_fit;
}

pub between_same : (format : Format) (n : ℕ) (calls x : List JournalCall)
    (replies y : List ReplyItem) → AreHeld n calls replies x y
    → between_bytes format n x y ≡ between_bytes format n calls replies
between_same format n calls x replies y h =
    rw (
      from_on_same (λ (c : JournalCall). c.at) n calls x h.later_calls,
      from_on_same (λ (r : ReplyItem). r.stamp.claims) n replies y h.later_replies,
    ) refl

pub held_bytes : (format : Format) (n : ℕ) (calls x : List JournalCall)
    (replies y : List ReplyItem) (claims z : List ClaimItem)
    → IsHeld n calls replies claims x y z
    → bytes_at format n x y z ≡ bytes_at format n calls replies claims
held_bytes format n calls x replies y claims z h =
    rw (
      from_on_same (λ (c : JournalCall). c.at) n calls x h.between.later_calls,
      from_on_same (λ (r : ReplyItem). r.stamp.claims) n replies y h.between.later_replies,
      from_on_same (λ (c : ClaimItem). c.k) n claims z h.later_claims,
    ) refl

-- what the loop has written
pub range_next : (format : Format) (out : List ℕ) (calls x : List JournalCall) (replies y : List ReplyItem)
    (claims z : List ClaimItem) (from n : ℕ) (now next : List ℕ) → from ≤ n
    → IsHeld n calls replies claims x y z
    → now ≡ out ++ flat_map (bytes_of format)
    (records_from (history_of claims calls replies) from (n - from))
    → next ≡ now ++ bytes_at format n x y z
    → next ≡ out ++ flat_map (bytes_of format)
    (records_from (history_of claims calls replies) from (n + 1 - from))
range_next format out calls x replies y claims z from n now next le h was is =
    let h' = history_of claims calls replies in
    let place : from + (n - from) ≡ n = omega (arith, le) in
    let count : n + 1 - from ≡ suc (n - from) = omega (arith, le) in
    let written = flat_map (bytes_of format) (records_from h' from (n - from)) in
    is ∙ ap (λ (u : List ℕ). u ++ bytes_at format n x y z) was
    ∙ append_assoc out written (bytes_at format n x y z)
    ∙ ap (λ (u : List ℕ). out ++ (written ++ u))
    (held_bytes format n calls x replies y claims z h
    ∙ ap (λ (k : ℕ). bytes_at format k calls replies claims) (sym place))
    ∙ ap (λ (u : List ℕ). out ++ u) (sym (bytes_more format h' from (n - from))
    ∙ ap (λ (k : ℕ). flat_map (bytes_of format) (records_from h' from k)) (sym count))

-- ---- whole histories

pairs_rise : {T : Type 0} (at : T → ℕ) (least : ℕ) (xs : List T) → All (λ x. least ≤ at x) xs
    → AllPairs (λ a b. at a ≤ at b) xs → IsRisingFrom at least xs
pairs_rise at least [] all pairs = tt
pairs_rise at least (x ∷ xs) all pairs = (
  all 0 x (omega arith),
  pairs_rise at (at x) xs (λ k d lt. pairs 0 (suc k) d (omega arith) (omega (arith, lt)))
      (λ i j d less lt. pairs (suc i) (suc j) d (omega (arith, less)) (omega (arith, lt))),
)

first_false : (a b : Bool) → (a || b) ≡ false → a ≡ false
first_false true b e = absurd cc
first_false false b e = refl

no_later : (a b : ReplyItem) → IsNoLater a b → a.stamp.claims ≤ b.stamp.claims
no_later a b h = ltb-false _ _ (first_false _ _ h)

none_later : (r : ReplyItem) (replies : List ReplyItem) → AllByRecursion (IsNoLater r) replies
    → AllByRecursion (λ x. r.stamp.claims ≤ x.stamp.claims) replies
none_later r [] h = tt
none_later r (x ∷ replies) h = (no_later r x h.0, none_later r replies h.1)

order_rise : (least : ℕ) (replies : List ReplyItem)
    → AllByRecursion (λ r. least ≤ r.stamp.claims) replies → AreInOrder replies
    → IsRisingFrom (λ r. r.stamp.claims) least replies
order_rise least [] above h = tt
order_rise least (r ∷ replies) above h =
    (above.0, order_rise r.stamp.claims replies (none_later r replies h.0) h.1)

all_above : (replies : List ReplyItem) → AllByRecursion (λ r. 0 ≤ r.stamp.claims) replies
all_above [] = tt
all_above (r ∷ replies) = (omega arith, all_above replies)

heads : (a b : ℕ) (xs ys : List ℕ) → a ∷ xs ≡ b ∷ ys → a ≡ b
heads a b xs ys e = cc

tails : (a b : ℕ) (xs ys : List ℕ) → a ∷ xs ≡ b ∷ ys → xs ≡ ys
tails a b xs ys e = cc

numbered_rise : (m : ℕ) (claims : List ClaimItem)
    → map (λ c. c.k) claims ≡ range_with_len m (length claims) → IsRisingFrom (λ c. c.k) m claims
numbered_rise m [] e = tt
numbered_rise m (c ∷ claims) e =
    let is : c.k ≡ m = heads _ _ _ _ e in (
      omega (arith, is),
      rising_less (λ (c : ClaimItem). c.k) c.k (m + 1) claims (omega (arith, is))
          (numbered_rise (m + 1) claims (tails _ _ _ _ e)),
    )

numbered_below : (m : ℕ) (claims : List ClaimItem)
    → map (λ c. c.k) claims ≡ range_with_len m (length claims)
    → AllByRecursion (λ c. c.k < m + length claims) claims
numbered_below m [] e = tt
numbered_below m (c ∷ claims) e =
    let is : c.k ≡ m = heads _ _ _ _ e in
    let place : m + 1 + length claims ≡ m + suc (length claims) = omega arith in (
      omega (arith, is),
      subst (λ (n : ℕ). AllByRecursion (λ (c : ClaimItem). c.k < n) claims) place
          (numbered_below (m + 1) claims (tails _ _ _ _ e)),
    )

up_to : {T : Type 0} (at : T → ℕ) (n m : ℕ) (xs : List T) → n < m
    → AllByRecursion (λ x. at x ≤ n) xs → AllByRecursion (λ x. at x < m) xs
up_to at n m [] lt h = tt
up_to at n m (x ∷ xs) lt h = (omega (arith, lt, h.0), up_to at n m xs lt h.1)

below_up : {T : Type 0} (at : T → ℕ) (n m : ℕ) (xs : List T) → n ≤ m
    → AllByRecursion (λ x. at x < n) xs → AllByRecursion (λ x. at x < m) xs
below_up at n m [] le h = tt
below_up at n m (x ∷ xs) le h = (omega (arith, le, h.0), below_up at n m xs le h.1)

journal_rise : (h : History) → IsWhole h → IsRisingFrom (λ c. c.at) 0 h.journal
journal_rise h whole =
    pairs_rise (λ (c : JournalCall). c.at) 0 h.journal (λ k d lt. omega arith) whole.calls

replies_rise : (h : History) → IsWhole h → IsRisingFrom (λ r. r.stamp.claims) 0 h.replies
replies_rise h whole = order_rise 0 h.replies (all_above h.replies) whole.replies

-- ---- what can be written

replies_fit : (format : Format) (d : DeviceParts) (replies : List ReplyItem)
    → AllByRecursion (FitsReply format d) replies → AllByRecursion (HoldsItem format) replies
replies_fit format d [] fits = tt
replies_fit format d (r ∷ replies) fits = (
  (
    holds_reply format (widths_of d) r fits.0.fits,
    omega (arith, fits.0.short, ap length (reply_same format (widths_of d) r)),
  ),
  replies_fit format d replies fits.1,
)

claims_fit : (d : DeviceParts) (claims : List ClaimItem) → AllByRecursion (FitsClaim d) claims
    → AllByRecursion IsShortClaim claims
claims_fit d [] fits = tt
claims_fit d (c ∷ claims) fits = (
  omega (arith, fits.0.short, ap length (claim_same (length d.inputs) c), length-claim c),
  claims_fit d claims fits.1,
)

pub whole_left : (format : Format) (d : DeviceParts) (h : History) → FitsHistory format d h
    → IsLeft format 0 h.journal h.replies h.claims
whole_left format d h fits = record {
  between = record {
    calls_rise = journal_rise h fits.whole;
    replies_rise = replies_rise h fits.whole;
    calls_fit = recursion_from_All (FitsCall format) h.journal fits.journal;
    replies_fit = replies_fit format d h.replies
        (recursion_from_All (FitsReply format d) h.replies fits.replies);
  };
  claims_rise = numbered_rise 0 h.claims fits.whole.numbered;
  claims_fit = claims_fit d h.claims (recursion_from_All (FitsClaim d) h.claims fits.claims);
}

-- ---- the whole text

items_same : (format : Format) (d : DeviceParts) (xs : List ResultItem)
    → flat_map (result_item format d).text xs ≡ flat_map (bytes_of format) xs
items_same format d [] = refl
items_same format d (x ∷ xs) =
    flat_map-cons (result_item format d).text x xs
    ∙ ap (λ (z : List ℕ). z ++ flat_map (result_item format d).text xs) (bytes_same format d x)
    ∙ ap (λ (z : List ℕ). bytes_of format x ++ z) (items_same format d xs)
    ∙ sym (flat_map-cons (bytes_of format) x xs)

pub whole_text : (format : Format) (d : DeviceParts) (h : History) (out : List ℕ) (count : ℕ)
    → count ≡ length h.claims + 1
    → ((out ++ result_magic format) ++ flat_map (bytes_of format) (records_from h 0 count))
    ++ end_text ≡ out ++ result_text format d h
unfolding result_text
whole_text format d h out count all =
    let magic = result_magic format in
    let text = flat_map (result_item format d).text (records_of h) in
    ap (λ (n : ℕ). ((out ++ magic) ++ flat_map (bytes_of format) (records_from h 0 n)) ++ end_text)
    all
    ∙ ap (λ (z : List ℕ). ((out ++ magic) ++ z) ++ end_text)
    (sym (items_same format d (records_of h)))
    ∙ append_assoc (out ++ magic) text end_text
    ∙ append_assoc out magic (text ++ end_text)

-- ---- nothing is left out

maps_to : {T : Type 0} (pick : ResultItem → Option T) (make : T → ResultItem) (xs : List T)
    → ((x : T) → pick (make x) ≡ Some x) → filter_map pick (map make xs) ≡ xs
maps_to pick make [] is = refl
maps_to {T} pick make (x ∷ xs) is = rw (is x) (ap (λ (z : List T). x ∷ z) (maps_to pick make xs is))

maps_none : {T U : Type 0} (pick : ResultItem → Option T) (make : U → ResultItem) (xs : List U)
    → ((x : U) → pick (make x) ≡ None) → filter_map pick (map make xs) ≡ []
maps_none pick make [] is = refl
maps_none pick make (x ∷ xs) is = rw (is x) (maps_none pick make xs is)

ranged : {T : Type 0} (pick : ResultItem → Option T) (of : ℕ → List T) (h : History) (ks : List ℕ)
    → ((k : ℕ) → filter_map pick (records_at h k) ≡ of k)
    → filter_map pick (flat_map (records_at h) ks) ≡ flat_map of ks
ranged pick of h [] each = refl
ranged {T} pick of h (k ∷ ks) each =
    ap (filter_map pick) (flat_map-cons (records_at h) k ks)
    ∙ filter_map-append pick (records_at h k) (flat_map (records_at h) ks)
    ∙ ap (λ (z : List T). z ++ filter_map pick (flat_map (records_at h) ks)) (each k)
    ∙ ap (λ (z : List T). of k ++ z) (ranged pick of h ks each) ∙ sym (flat_map-cons of k ks)

split_picks : {T : Type 0} (pick : ResultItem → Option T) (h : History) (k : ℕ)
    → filter_map pick (records_at h k)
    ≡ filter_map pick (map (λ c. Call c) (calls_at k h.journal))
    ++ (filter_map pick (map (λ r. AReply r) (replies_at k h.replies))
    ++ filter_map pick (map (λ c. Claim c) (claim_at k h.claims)))
unfolding records_at
split_picks {T} pick h k =
    let calls = map (λ (c : JournalCall). Call c) (calls_at k h.journal) in
    let replies = map (λ (r : ReplyItem). AReply r) (replies_at k h.replies) in
    let claims = map (λ (c : ClaimItem). Claim c) (claim_at k h.claims) in
    filter_map-append pick calls (replies ++ claims)
    ∙ ap (λ (z : List T). filter_map pick calls ++ z) (filter_map-append pick replies claims)

calls_are : (h : History) (k : ℕ) → filter_map if_call (records_at h k) ≡ calls_at k h.journal
calls_are h k =
    split_picks if_call h k
    ∙ rw (
      maps_to if_call (λ (c : JournalCall). Call c) (calls_at k h.journal) (λ x. refl),
      maps_none if_call (λ (r : ReplyItem). AReply r) (replies_at k h.replies) (λ x. refl),
      maps_none if_call (λ (c : ClaimItem). Claim c) (claim_at k h.claims) (λ x. refl),
    )
    (append-nil (calls_at k h.journal))

replies_are : (h : History) (k : ℕ) → filter_map if_reply (records_at h k) ≡ replies_at k h.replies
replies_are h k =
    split_picks if_reply h k
    ∙ rw (
      maps_none if_reply (λ (c : JournalCall). Call c) (calls_at k h.journal) (λ x. refl),
      maps_to if_reply (λ (r : ReplyItem). AReply r) (replies_at k h.replies) (λ x. refl),
      maps_none if_reply (λ (c : ClaimItem). Claim c) (claim_at k h.claims) (λ x. refl),
    )
    (append-nil (replies_at k h.replies))

claims_are : (h : History) (k : ℕ) → filter_map if_claim (records_at h k) ≡ claim_at k h.claims
claims_are h k =
    split_picks if_claim h k
    ∙ rw (
      maps_none if_claim (λ (c : JournalCall). Call c) (calls_at k h.journal) (λ x. refl),
      maps_none if_claim (λ (r : ReplyItem). AReply r) (replies_at k h.replies) (λ x. refl),
      maps_to if_claim (λ (c : ClaimItem). Claim c) (claim_at k h.claims) (λ x. refl),
    ) refl

pub shows_all : (h : History) → IsWhole h → ShowsAll h
shows_all h whole =
    let n = length h.claims + 1 in
    let ks = range_with_len 0 n in
    record {
      calls = ranged if_call (λ k. calls_at k h.journal) h ks (calls_are h)
          ∙ shown (λ (c : JournalCall). c.at) n 0 h.journal h.journal
          (all_from_on (λ (c : JournalCall). c.at) 0 h.journal (journal_rise h whole))
          (up_to (λ (c : JournalCall). c.at) (length h.claims) (0 + n) h.journal (omega arith)
          (recursion_from_All (λ (c : JournalCall). c.at ≤ length h.claims) h.journal
          whole.calls_within));
      replies = ranged if_reply (λ k. replies_at k h.replies) h ks (replies_are h)
          ∙ shown (λ (r : ReplyItem). r.stamp.claims) n 0 h.replies h.replies
          (all_from_on (λ (r : ReplyItem). r.stamp.claims) 0 h.replies (replies_rise h whole))
          (up_to (λ (r : ReplyItem). r.stamp.claims) (length h.claims) (0 + n) h.replies
          (omega arith) (recursion_from_All (λ (r : ReplyItem). r.stamp.claims ≤ length h.claims)
          h.replies whole.replies_within));
      claims = ranged if_claim (λ k. claim_at k h.claims) h ks (claims_are h)
          ∙ shown (λ (c : ClaimItem). c.k) n 0 h.claims h.claims
          (all_from_on (λ (c : ClaimItem). c.k) 0 h.claims
          (numbered_rise 0 h.claims whole.numbered))
          (below_up (λ (c : ClaimItem). c.k) (0 + length h.claims) (0 + n) h.claims (omega arith)
          (numbered_below 0 h.claims whole.numbered));
    }
