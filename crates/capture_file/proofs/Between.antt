-- The parts of a result around its packets: a claim's record by its front, and a history's text as
-- the parts that are written one after the other.
use Rattle.std.proofs.Common.{◌≡◌, ℕ, zero, suc, ◌+◌, ◌<◌, ◌≤◌, Bool, true, false, eqb, List, []}
use Rattle.std.proofs.Common.{◌∷◌, ◌++◌, length, map, refl, sym, ap, ◌∙◌, append_assoc, zero-add}
use Rattle.std.proofs.Common.{arith}
use Rattle.std.specs.List.{flat_map, range_with_len}
use Rattle.byteorder.specs.Endian.{big_bytes}
use Rattle.std.proofs.lemmas.Bool.{eqb-true, eqb-false}
use Rattle.std.proofs.lemmas.List.{append-nil}
use Rattle.std.proofs.lemmas.List.Concat.{flat_map-cons}
use Rattle.std.proofs.lemmas.List.FromFn.{map-range_with_len_more, length-map-range_with_len}
use Rattle.std.proofs.lemmas.Grind.{flat_map-append}
use Rattle.exact_text.specs.Forms.{number_text}
use Rattle.io_caps.specs.declared.device.DeviceParts.{DeviceParts}
use Rattle.book_words.specs.declared.calls.JournalCall.{JournalCall}
use Rattle.book_words.specs.declared.history.ClaimItem.{ClaimItem}
use Rattle.book_words.specs.declared.history.History.{History}
use Rattle.book_words.specs.declared.history.ReplyItem.{ReplyItem}
use Rattle.book_words.specs.History.{history_of}
use Rattle.capture_file.specs.Tags.{claim_tag}
use Rattle.capture_file.specs.Device.{flag}
use Rattle.capture_file.specs.declared.format.Format.{Format}
use Rattle.capture_file.specs.Formats.{result_magic}
use Rattle.capture_file.specs.Items.{end_text}
use Rattle.capture_file.specs.Records.{claim_at, records_from}
use Rattle.capture_file.specs.Result.{bytes_of, result_text, FitsHistory}
use Rattle.capture_file.specs.Parts.{between_bytes, bytes_at, claim_bytes, claim_front}
use Rattle.capture_file.specs.Parts.{AreHeld, AreLeft}
use Rattle.capture_file.proofs.ResultLaws.{claim_joined, length-claim}
use Rattle.capture_file.proofs.PartLaws.{between_same, bytes_more, range_more, whole_left}
use Rattle.capture_file.proofs.PartLaws.{whole_text}

-- ---- between the claims

-- what stands at one more number of claims
pub made_more : (format : Format) (calls x : List JournalCall) (replies y : List ReplyItem) (n : ℕ)
    (made : List (List ℕ)) → AreHeld n calls replies x y
    → made ≡ map (λ k. between_bytes format k calls replies) (range_with_len 0 n)
    → made ++ between_bytes format n x y ∷ []
    ≡ map (λ k. between_bytes format k calls replies) (range_with_len 0 (n + 1))
made_more format calls x replies y n made held was =
    let f = λ (k : ℕ). between_bytes format k calls replies in
    ap (λ (z : List (List ℕ)). z ++ between_bytes format n x y ∷ []) was
    ∙ ap (λ (z : List ℕ). map f (range_with_len 0 n) ++ z ∷ [])
    (between_same format n calls x replies y held)
    ∙ sym (map-range_with_len_more f 0 n n (zero-add n))

-- of a history that fits its device, each call and each reply can be written
pub left_of : (format : Format) (d : DeviceParts) (h : History) → FitsHistory format d h
    → AreLeft format 0 h.journal h.replies
left_of format d h fits = (whole_left format d h fits).between

-- ---- a claim

-- a claim's record is its front and its packet
pub claim_split : (c : ClaimItem)
    → claim_bytes c ≡ claim_front c.k c.found (length c.packet) ++ c.packet
claim_split c =
    let size = big_bytes 4 (length c.found + length c.packet + 8) in
    sym (claim_joined [] c (length c.found + length c.packet + 8) (length-claim c))
    ∙ ap (λ (z : List ℕ). (claim_tag ∷ z) ++ c.packet)
    (append_assoc size (number_text 8 c.k) (flat_map flag.text c.found))

-- ---- claims by a function

other_claim : (claim_of : ℕ → ClaimItem) → ((k : ℕ) → (claim_of k).k ≡ k) → (a k : ℕ) → a < k
    → eqb (claim_of a).k k ≡ false
other_claim claim_of is a k lt = let e = is a in grind (arith, eqb-true, e)

later_claim : (claim_of : ℕ → ClaimItem) → ((k : ℕ) → (claim_of k).k ≡ k) → (a k : ℕ) → k < a
    → eqb (claim_of a).k k ≡ false
later_claim claim_of is a k lt = let e = is a in grind (arith, eqb-true, e)

none_below : (claim_of : ℕ → ClaimItem) → ((k : ℕ) → (claim_of k).k ≡ k) → (n a k : ℕ) → k < a
    → claim_at k (map claim_of (range_with_len a n)) ≡ []
none_below claim_of is zero a k lt = refl
none_below claim_of is (suc n) a k lt =
    rw (later_claim claim_of is a k lt) (none_below claim_of is n (a + 1) k (omega (arith, lt)))

none_past : (claim_of : ℕ → ClaimItem) → ((k : ℕ) → (claim_of k).k ≡ k) → (n a k : ℕ) → a + n ≤ k
    → claim_at k (map claim_of (range_with_len a n)) ≡ []
none_past claim_of is zero a k le = refl
none_past claim_of is (suc n) a k le =
    rw (other_claim claim_of is a k (omega (arith, le)))
    (none_past claim_of is n (a + 1) k (omega (arith, le)))

one_case : (claim_of : ℕ → ClaimItem) → ((k : ℕ) → (claim_of k).k ≡ k) → (n a k : ℕ) (b : Bool)
    → eqb (claim_of a).k k ≡ b → a ≤ k
    → (a < k → claim_at k (map claim_of (range_with_len (a + 1) n)) ≡ claim_of k ∷ [])
    → claim_at k (map claim_of (range_with_len a (suc n))) ≡ claim_of k ∷ []
one_case claim_of is n a k true e le others =
    let same : a ≡ k = sym (is a) ∙ eqb-true (claim_of a).k k e in
    rw e (ap (λ (z : List ClaimItem). claim_of a ∷ z)
    (none_below claim_of is n (a + 1) k (omega (arith, same)))
    ∙ ap (λ (j : ℕ). claim_of j ∷ []) same)
one_case claim_of is n a k false e le others =
    let other = eqb-false (claim_of a).k k e in
    rw e (others (omega (arith, le, other, is a)))

claim_is : (claim_of : ℕ → ClaimItem) → ((k : ℕ) → (claim_of k).k ≡ k) → (n a k : ℕ) → a ≤ k
    → k < a + n → claim_at k (map claim_of (range_with_len a n)) ≡ claim_of k ∷ []
claim_is claim_of is zero a k le lt = absurd (omega (arith, le, lt))
claim_is claim_of is (suc n) a k le lt =
    one_case claim_of is n a k (eqb (claim_of a).k k) refl le
    (λ less. claim_is claim_of is n (a + 1) k (omega (arith, less)) (omega (arith, lt)))

-- ---- the whole text

-- the record of claim k, after what stands between it and the claim before it
abbrev pub woven_bytes : Format → (ℕ → ClaimItem) → List JournalCall → List ReplyItem → ℕ → List ℕ
woven_bytes format claim_of calls replies k =
    between_bytes format k calls replies ++ claim_bytes (claim_of k)

-- the text up to a number of claims
woven_part : (format : Format) (claim_of : ℕ → ClaimItem) (n : ℕ) (calls : List JournalCall)
    (replies : List ReplyItem) → ((k : ℕ) → (claim_of k).k ≡ k) → (m : ℕ) → m ≤ n
    → flat_map (bytes_of format)
    (records_from (history_of (map claim_of (range_with_len 0 n)) calls replies) 0 m)
    ≡ flat_map (woven_bytes format claim_of calls replies) (range_with_len 0 m)
woven_part format claim_of n calls replies is zero le = refl
woven_part format claim_of n calls replies is (suc m) le =
    let claims = map claim_of (range_with_len 0 n) in
    let woven = woven_bytes format claim_of calls replies in
    let one = claim_is claim_of is n 0 m (omega arith) (omega (arith, le)) in
    bytes_more format (history_of claims calls replies) 0 m
    ∙ ap (λ (z : List ℕ). z ++ bytes_at format (0 + m) calls replies claims)
    (woven_part format claim_of n calls replies is m (omega (arith, le)))
    ∙ ap (λ (k : ℕ). flat_map woven (range_with_len 0 m) ++ bytes_at format k calls replies claims)
    (zero-add m)
    ∙ ap (λ (z : List ClaimItem). flat_map woven (range_with_len 0 m)
    ++ (between_bytes format m calls replies ++ flat_map claim_bytes z)) one
    ∙ ap (λ (z : List ℕ). flat_map woven (range_with_len 0 m)
    ++ (between_bytes format m calls replies ++ z))
    (flat_map-cons claim_bytes (claim_of m) [] ∙ append-nil (claim_bytes (claim_of m)))
    ∙ ap (λ (z : List ℕ). flat_map woven (range_with_len 0 m) ++ z)
    (sym (flat_map-cons woven m [] ∙ append-nil (woven m)))
    ∙ sym (ap (flat_map woven) (range_more 0 m
    ∙ ap (λ (k : ℕ). range_with_len 0 m ++ k ∷ []) (zero-add m))
    ∙ flat_map-append woven (range_with_len 0 m) (m ∷ []))

-- the text of a history whose claim k is what a function says
pub woven_text : (format : Format) (d : DeviceParts) (claim_of : ℕ → ClaimItem) (n : ℕ) (calls : List JournalCall)
    (replies : List ReplyItem) → ((k : ℕ) → (claim_of k).k ≡ k)
    → result_text format d (history_of (map claim_of (range_with_len 0 n)) calls replies)
    ≡ result_magic format
    ++ (flat_map (woven_bytes format claim_of calls replies) (range_with_len 0 n)
    ++ (between_bytes format n calls replies ++ end_text))
woven_text format d claim_of n calls replies is =
    let claims = map claim_of (range_with_len 0 n) in
    let h = history_of claims calls replies in
    let magic = result_magic format in
    let woven = flat_map (woven_bytes format claim_of calls replies) (range_with_len 0 n) in
    let between = between_bytes format n calls replies in
    let long = length-map-range_with_len claim_of 0 n in
    let last : bytes_at format (0 + n) calls replies claims ≡ between =
    ap (λ (k : ℕ). bytes_at format k calls replies claims) (zero-add n)
    ∙ ap (λ (z : List ClaimItem). between ++ flat_map claim_bytes z)
    (none_past claim_of is n 0 n (omega arith)) ∙ append-nil between in
    sym (whole_text format d h [] (suc n) (omega (arith, long)))
    ∙ ap (λ (z : List ℕ). (magic ++ z) ++ end_text)
    (bytes_more format h 0 n
    ∙ ap (λ (z : List ℕ). z ++ bytes_at format (0 + n) calls replies claims)
    (woven_part format claim_of n calls replies is n (omega arith))
    ∙ ap (λ (z : List ℕ). woven ++ z) last)
    ∙ append_assoc magic (woven ++ between) end_text
    ∙ ap (λ (z : List ℕ). magic ++ z) (append_assoc woven between end_text)
