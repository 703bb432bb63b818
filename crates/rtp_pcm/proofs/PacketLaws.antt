-- The packet layout and the places of its parts say the same, and no bytes have two readings.
use Rattle.std.proofs.Common.{◌≡◌, ◌<◌, ◌≤◌, ℕ, suc, ◌+◌, ◌-◌, ◌*◌, ◌/◌, ◌%◌, ◌^◌, Bool, true, false, List}
use Rattle.std.proofs.Common.{[], ◌∷◌, ◌++◌, length, get_or, take, drop, refl, sym, ap, subst, ◌∙◌, append_assoc, arith, inl, inr}
use Rattle.std.specs.Prelude.{◌==◌, IsTrue, if◌then◌else◌, slice_index}
use Rattle.std.proofs.Math.Seq.{drop-cons}
use Rattle.std.proofs.lemmas.Bool.{cases_lt}
use Rattle.std.proofs.lemmas.List.{append-nil, take_at, drop_at, drop-drop, take-append-drop, length-append}
use Rattle.std.proofs.lemmas.List.{length-take, length-drop, drop_all, get_or-drop, get_or-take, get_or_at}
use Rattle.std.proofs.lemmas.Nat.{be_bytes_2, be_bytes_4}
use Rattle.list_laws.proofs.Items.{drop_each, take_each}
use Rattle.byteorder.specs.Endian.{big_bytes, big_number}
use Rattle.byteorder.specs.Numbers.{big_number-reads_back, big_from-lt}
use Rattle.rtp_pcm.specs.declared.packet.Head.{Head}
use Rattle.rtp_pcm.specs.Packet.{bit, IsHead, fixed_part, IsExtensionPart, IsPaddingPart, IsRtp, rtp_packet}
use Rattle.rtp_pcm.specs.Places.{version, is_padded, is_extended, is_marked, head_in, csrc_end, behind_csrcs, extension_length}
use Rattle.rtp_pcm.specs.Places.{behind_extension, last_byte, before_padding, payload_in, HasAllParts, IsPadded}

-- ---- from the layout to the places

-- A text that begins with a fixed part, and what its places say.
pub record BeginsWith (bytes : List ℕ) (padded extended : Bool) (count : ℕ) (marker : Bool) (head : Head) (rest : List ℕ) : Type 0 where
  pub two : version bytes ≡ 2
  pub padding_bit : is_padded bytes ≡ padded
  pub extension_bit : is_extended bytes ≡ extended
  pub csrcs : slice_index bytes 0 % 16 ≡ count
  pub marker_bit : is_marked bytes ≡ marker
  pub fields : head_in bytes ≡ head
  pub behind : drop 12 bytes ≡ rest
  pub long : 12 ≤ length bytes

first_byte : (padded extended : Bool) (count : ℕ) → count < 16 → let x = 2 * 64 + bit padded 32 + bit extended 16 + count in
    (x / 64 ≡ 2) × ((x / 32 % 2 == 1) ≡ padded) × ((x / 16 % 2 == 1) ≡ extended) × (x % 16 ≡ count)
first_byte true true count h = (omega arith, grind arith, grind arith, omega arith)
first_byte true false count h = (omega arith, grind arith, grind arith, omega arith)
first_byte false true count h = (omega arith, grind arith, grind arith, omega arith)
first_byte false false count h = (omega arith, grind arith, grind arith, omega arith)

second_byte : (marker : Bool) (payload_type : ℕ) → payload_type < 2 ^ 7 → let x = bit marker 128 + payload_type in
    ((x / 128 % 2 == 1) ≡ marker) × (x % 128 ≡ payload_type)
second_byte true payload_type h = (grind arith, omega arith)
second_byte false payload_type h = (grind arith, omega arith)

begins : (padded extended : Bool) (count : ℕ) (marker : Bool) (head : Head) (rest : List ℕ) → count < 16 → IsHead head
    → BeginsWith (fixed_part padded extended count marker head ++ rest) padded extended count marker head rest
begins padded extended count marker head rest few h =
    let first = first_byte padded extended count few in
    let second = second_byte marker head.payload_type h.0 in
    let sequence : big_number 2 (big_bytes 2 head.sequence ++ (big_bytes 4 head.timestamp ++ (big_bytes 4 head.ssrc ++ rest))) ≡ head.sequence =
    big_number-reads_back 2 head.sequence (big_bytes 4 head.timestamp ++ (big_bytes 4 head.ssrc ++ rest)) h.1 in
    let timestamp : big_number 4 (big_bytes 4 head.timestamp ++ (big_bytes 4 head.ssrc ++ rest)) ≡ head.timestamp =
    big_number-reads_back 4 head.timestamp (big_bytes 4 head.ssrc ++ rest) h.2 in
    let ssrc : big_number 4 (big_bytes 4 head.ssrc ++ rest) ≡ head.ssrc = big_number-reads_back 4 head.ssrc rest h.3 in
    record {
      two = first.0;
      padding_bit = first.1;
      extension_bit = first.2;
      csrcs = first.3;
      marker_bit = second.0;
      fields = rw (second.1, sequence, timestamp, ssrc) refl;
      behind = refl;
      long = omega arith;
    }

extension_read : (extended : Bool) (part rest : List ℕ) → IsExtensionPart extended part
    → ((if extended then drop (extension_length (part ++ rest)) (part ++ rest) else (part ++ rest)) ≡ rest)
    × (IsTrue extended → extension_length (part ++ rest) ≤ length (part ++ rest))
extension_read true part rest e =
    let split : part ++ rest ≡ e.open_bytes ++ (big_bytes 2 e.count ++ (e.words ++ rest)) =
    ap (λ (x : List ℕ). x ++ rest) e.text ∙ append_assoc e.open_bytes (big_bytes 2 e.count ++ e.words) rest in
    let behind : drop 2 (part ++ rest) ≡ big_bytes 2 e.count ++ (e.words ++ rest) =
    ap (drop 2) split ∙ drop_at e.open_bytes (big_bytes 2 e.count ++ (e.words ++ rest)) 2 e.two_bytes in
    let count : big_number 2 (drop 2 (part ++ rest)) ≡ e.count =
    ap (big_number 2) behind ∙ big_number-reads_back 2 e.count (e.words ++ rest) e.count_fits in
    let total : extension_length (part ++ rest) ≡ 4 + 4 * e.count = ap (λ (n : ℕ). 4 + 4 * n) count in
    let inner : length (big_bytes 2 e.count ++ e.words) ≡ 2 + 4 * e.count = omega (arith, e.all_words) in
    let long : length part ≡ 4 + 4 * e.count = ap length e.text
    ∙ omega (arith, length-append e.open_bytes (big_bytes 2 e.count ++ e.words), e.two_bytes, inner) in
    (ap (λ (n : ℕ). drop n (part ++ rest)) total ∙ drop_at part rest (4 + 4 * e.count) long, λ t. omega (arith, total, length-append part rest, long))
extension_read false part rest e = (ap (λ (x : List ℕ). x ++ rest) e, λ t. absurd cc)

padding_read : (padded : Bool) (payload part : List ℕ) → IsPaddingPart padded part
    → ((if padded then before_padding (payload ++ part) else (payload ++ part)) ≡ payload) × (IsTrue padded → IsPadded (payload ++ part))
padding_read true payload part e =
    let filler : List ℕ = e.0 in
    let count : ℕ = length filler + 1 in
    let all : payload ++ part ≡ (payload ++ filler) ++ count ∷ [] =
    ap (λ (x : List ℕ). payload ++ x) e.2 ∙ sym (append_assoc payload filler (count ∷ [])) in
    let long : length (payload ++ part) ≡ length payload + count =
    ap length all ∙ omega (arith, length-append (payload ++ filler) (count ∷ []), length-append payload filler) in
    let place : length (payload ++ filler) ≡ length (payload ++ part) - 1 = omega (arith, long, length-append payload filler) in
    let last : last_byte (payload ++ part) ≡ count =
    ap (λ (x : List ℕ). get_or x (length (payload ++ part) - 1) 0) all
    ∙ get_or_at (payload ++ filler) count [] 0 (length (payload ++ part) - 1) place in
    let front : before_padding (payload ++ part) ≡ payload = take_at payload part _ (omega (arith, long, last)) in
    (front, λ t. (omega (arith, last), omega (arith, last, long)))
padding_read false payload part e = (ap (λ (x : List ℕ). payload ++ x) e ∙ append-nil payload, λ t. absurd cc)

-- The fields and the payload that stand at the places.
pub record StandsThere (bytes : List ℕ) (head : Head) (marker : Bool) (payload : List ℕ) : Type 0 where
  pub parts : HasAllParts bytes
  pub fields : head_in bytes ≡ head
  pub marked : is_marked bytes ≡ marker
  pub rest : payload_in bytes ≡ payload

-- A packet's parts are at their places.
pub IsRtp-stands : (bytes : List ℕ) (head : Head) (marker : Bool) (payload : List ℕ) → IsRtp bytes head marker payload
    → StandsThere bytes head marker payload
IsRtp-stands bytes head marker payload r =
    let tail : List ℕ = r.csrcs ++ (r.extension ++ (payload ++ r.padding)) in
    let front : BeginsWith bytes r.padded r.extended r.count marker head tail =
    subst (λ (x : List ℕ). BeginsWith x r.padded r.extended r.count marker head tail) (sym r.text)
    (begins r.padded r.extended r.count marker head tail r.csrc_part.0 r.in_range) in
    let start : csrc_end bytes ≡ 12 + 4 * r.count = ap (λ (n : ℕ). 12 + 4 * n) front.csrcs in
    let behind : behind_csrcs bytes ≡ r.extension ++ (payload ++ r.padding) =
    ap (λ (n : ℕ). drop n bytes) start ∙ sym (drop-drop (4 * r.count) 12 bytes) ∙ ap (drop (4 * r.count)) front.behind
    ∙ drop_at r.csrcs (r.extension ++ (payload ++ r.padding)) (4 * r.count) r.csrc_part.1 in
    let extension = extension_read r.extended r.extension (payload ++ r.padding) r.extension_part in
    let middle : behind_extension bytes ≡ payload ++ r.padding =
    ap (λ (x : Bool). if x then drop (extension_length (behind_csrcs bytes)) (behind_csrcs bytes) else behind_csrcs bytes) front.extension_bit
    ∙ ap (λ (x : List ℕ). if r.extended then drop (extension_length x) x else x) behind ∙ extension.0 in
    let padding = padding_read r.padded payload r.padding r.padding_part in
    let end : payload_in bytes ≡ payload =
    ap (λ (x : Bool). if x then before_padding (behind_extension bytes) else behind_extension bytes) front.padding_bit
    ∙ ap (λ (x : List ℕ). if r.padded then before_padding x else x) middle ∙ padding.0 in
    let long : csrc_end bytes ≤ length bytes = omega (
      arith,
      start,
      ap length front.behind,
      length-drop 12 bytes,
      length-append r.csrcs (r.extension ++ (payload ++ r.padding)),
      r.csrc_part.1,
      front.long,
    ) in
    record {
      parts = (
        (
          ((front.long, front.two), long),
          λ t. subst (λ (x : List ℕ). extension_length x ≤ length x) (sym behind) (extension.1 (subst IsTrue front.extension_bit t)),
        ),
        λ t. subst IsPadded (sym middle) (padding.1 (subst IsTrue front.padding_bit t)),
      );
      fields = front.fields;
      marked = front.marker_bit;
      rest = end;
    }

-- No bytes have two readings.
pub one_reading : (bytes : List ℕ) (h k : Head) (m n : Bool) (p q : List ℕ) → IsRtp bytes h m p → IsRtp bytes k n q
    → (h ≡ k) × (m ≡ n) × (p ≡ q)
one_reading bytes h k m n p q one other =
    let a = IsRtp-stands bytes h m p one in
    let b = IsRtp-stands bytes k n q other in
    (sym a.fields ∙ b.fields, sym a.marked ∙ b.marked, sym a.rest ∙ b.rest)

-- What is written is a packet with that head, no marker and that payload.
pub rtp_packet-IsRtp : (head : Head) (payload : List ℕ) → IsHead head → IsRtp (rtp_packet head payload) head false payload
rtp_packet-IsRtp head payload h = record {
  padded = false;
  extended = false;
  count = 0;
  csrcs = [];
  extension = [];
  padding = [];
  in_range = h;
  csrc_part = (omega arith, refl);
  extension_part = refl;
  padding_part = refl;
  text = ap (λ (x : List ℕ). fixed_part false false 0 false head ++ x) (sym (append-nil payload));
}

-- ---- from the places to the layout

-- each number is a byte
abbrev pub IsBytes : List ℕ → Type 0
IsBytes bytes = (i : ℕ) → slice_index bytes i < 256

IsBytes-drop : (n : ℕ) (bytes : List ℕ) → IsBytes bytes → IsBytes (drop n bytes)
IsBytes-drop n bytes h = drop_each (λ (b : ℕ). b < 256) n bytes 0 h

IsBytes-take : (n : ℕ) (bytes : List ℕ) → IsBytes bytes → IsBytes (take n bytes)
IsBytes-take n bytes h = take_each (λ (b : ℕ). b < 256) n bytes 0 (omega arith) h

-- two bytes, as the number that they are, and what follows
two_and_rest : (bytes : List ℕ) → 2 ≤ length bytes → IsBytes bytes → bytes ≡ big_bytes 2 (big_number 2 bytes) ++ drop 2 bytes
two_and_rest bytes long h =
    let first : big_number 2 (take 2 bytes) ≡ big_number 2 bytes = rw (get_or-take 2 bytes 0 0 (omega arith), get_or-take 2 bytes 1 0 (omega arith)) refl in
    let front : big_bytes 2 (big_number 2 bytes) ≡ take 2 bytes =
    ap (big_bytes 2) (sym first) ∙ be_bytes_2 (take 2 bytes) (big_number 2 (take 2 bytes)) (omega (arith, length-take 2 bytes)) (IsBytes-take 2 bytes h)
    (omega arith) in
    sym (take-append-drop 2 bytes) ∙ ap (λ (x : List ℕ). x ++ drop 2 bytes) (sym front)

-- four bytes in the same way
four_and_rest : (bytes : List ℕ) → 4 ≤ length bytes → IsBytes bytes → bytes ≡ big_bytes 4 (big_number 4 bytes) ++ drop 4 bytes
four_and_rest bytes long h =
    let first : big_number 4 (take 4 bytes) ≡ big_number 4 bytes =
    rw (
      get_or-take 4 bytes 0 0 (omega arith),
      get_or-take 4 bytes 1 0 (omega arith),
      get_or-take 4 bytes 2 0 (omega arith),
      get_or-take 4 bytes 3 0 (omega arith),
    ) refl in
    let front : big_bytes 4 (big_number 4 bytes) ≡ take 4 bytes =
    ap (big_bytes 4) (sym first) ∙ be_bytes_4 (take 4 bytes) (big_number 4 (take 4 bytes)) (omega (arith, length-take 4 bytes)) (IsBytes-take 4 bytes h)
    (omega arith) in
    sym (take-append-drop 4 bytes) ∙ ap (λ (x : List ℕ). x ++ drop 4 bytes) (sym front)

bit_is : (x value : ℕ) → bit (x % 2 == 1) value ≡ x % 2 * value
bit_is x value = elim (cases_lt (x % 2) 1) [
  | inl lt ↦ let e : x % 2 ≡ 0 = omega arith in rw e (omega arith)
  | inr le ↦ let e : x % 2 ≡ 1 = omega arith in rw e (omega arith)
]

first_byte_back : (x : ℕ) → x < 256 → x / 64 ≡ 2 → 2 * 64 + bit (x / 32 % 2 == 1) 32 + bit (x / 16 % 2 == 1) 16 + x % 16 ≡ x
first_byte_back x h two = rw (bit_is (x / 32) 32, bit_is (x / 16) 16) (omega arith)

second_byte_back : (x : ℕ) → x < 256 → bit (x / 128 % 2 == 1) 128 + x % 128 ≡ x
second_byte_back x h = rw (bit_is (x / 128) 128) (omega arith)

fixed_part_there : (bytes : List ℕ) → 12 ≤ length bytes → IsBytes bytes → version bytes ≡ 2
    → bytes ≡ fixed_part (is_padded bytes) (is_extended bytes) (slice_index bytes 0 % 16) (is_marked bytes) (head_in bytes) ++ drop 12 bytes
fixed_part_there bytes long h two =
    let first : bytes ≡ get_or bytes 0 0 ∷ drop 1 bytes = drop-cons bytes 0 0 (omega arith) in
    let second : drop 1 bytes ≡ get_or bytes 1 0 ∷ drop 2 bytes = drop-cons bytes 1 0 (omega arith) in
    let sequence : drop 2 bytes ≡ big_bytes 2 (big_number 2 (drop 2 bytes)) ++ drop 4 bytes =
    two_and_rest (drop 2 bytes) (omega (arith, length-drop 2 bytes)) (IsBytes-drop 2 bytes h)
    ∙ ap (λ (x : List ℕ). big_bytes 2 (big_number 2 (drop 2 bytes)) ++ x) (drop-drop 2 2 bytes) in
    let timestamp : drop 4 bytes ≡ big_bytes 4 (big_number 4 (drop 4 bytes)) ++ drop 8 bytes =
    four_and_rest (drop 4 bytes) (omega (arith, length-drop 4 bytes)) (IsBytes-drop 4 bytes h)
    ∙ ap (λ (x : List ℕ). big_bytes 4 (big_number 4 (drop 4 bytes)) ++ x) (drop-drop 4 4 bytes) in
    let ssrc : drop 8 bytes ≡ big_bytes 4 (big_number 4 (drop 8 bytes)) ++ drop 12 bytes =
    four_and_rest (drop 8 bytes) (omega (arith, length-drop 8 bytes)) (IsBytes-drop 8 bytes h)
    ∙ ap (λ (x : List ℕ). big_bytes 4 (big_number 4 (drop 8 bytes)) ++ x) (drop-drop 4 8 bytes) in
    let behind : drop 2 bytes ≡ big_bytes 2 (big_number 2 (drop 2 bytes))
    ++ (big_bytes 4 (big_number 4 (drop 4 bytes)) ++ (big_bytes 4 (big_number 4 (drop 8 bytes)) ++ drop 12 bytes)) =
    sequence ∙ ap (λ (x : List ℕ). big_bytes 2 (big_number 2 (drop 2 bytes)) ++ x) (timestamp
    ∙ ap (λ (x : List ℕ). big_bytes 4 (big_number 4 (drop 4 bytes)) ++ x) ssrc) in
    first ∙ ap (λ (x : List ℕ). get_or bytes 0 0 ∷ x) (second ∙ ap (λ (x : List ℕ). get_or bytes 1 0 ∷ x) behind)
    ∙ ap (λ (b : ℕ). b ∷ get_or bytes 1 0 ∷ (big_bytes 2 (big_number 2 (drop 2 bytes))
    ++ (big_bytes 4 (big_number 4 (drop 4 bytes)) ++ (big_bytes 4 (big_number 4 (drop 8 bytes)) ++ drop 12 bytes))))
    (sym (first_byte_back (get_or bytes 0 0) (h 0) two))
    ∙ ap (λ (b : ℕ). (2 * 64 + bit (is_padded bytes) 32 + bit (is_extended bytes) 16 + get_or bytes 0 0 % 16) ∷ b ∷
    (big_bytes 2 (big_number 2 (drop 2 bytes)) ++ (big_bytes 4 (big_number 4 (drop 4 bytes))
    ++ (big_bytes 4 (big_number 4 (drop 8 bytes)) ++ drop 12 bytes)))) (sym (second_byte_back (get_or bytes 1 0) (h 1)))

-- An extension part in front of a text, by the extension bit.
record HasExtensionFront (extended : Bool) (text : List ℕ) : Type 0 where
  part : List ℕ
  is_part : IsExtensionPart extended part
  front : text ≡ part ++ (if extended then drop (extension_length text) text else text)

extension_there : (extended : Bool) (text : List ℕ) → IsBytes text → (IsTrue extended → extension_length text ≤ length text)
    → HasExtensionFront extended text
extension_there false text h fits = record { part = []; is_part = refl; front = refl }
extension_there true text h fits =
    let long : extension_length text ≤ length text = fits refl in
    let count : ℕ = big_number 2 (drop 2 text) in
    let opened : text ≡ take 2 text ++ drop 2 text = sym (take-append-drop 2 text) in
    let counted : drop 2 text ≡ big_bytes 2 count ++ drop 4 text =
    two_and_rest (drop 2 text) (omega (arith, length-drop 2 text, long)) (IsBytes-drop 2 text h)
    ∙ ap (λ (x : List ℕ). big_bytes 2 count ++ x) (drop-drop 2 2 text) in
    let words : drop 4 text ≡ take (4 * count) (drop 4 text) ++ drop (4 + 4 * count) text =
    sym (take-append-drop (4 * count) (drop 4 text)) ∙ ap (λ (x : List ℕ). take (4 * count) (drop 4 text) ++ x) (drop-drop (4 * count) 4 text) in
    let inner : drop 2 text ≡ (big_bytes 2 count ++ take (4 * count) (drop 4 text)) ++ drop (4 + 4 * count) text =
    counted ∙ ap (λ (x : List ℕ). big_bytes 2 count ++ x) words
    ∙ sym (append_assoc (big_bytes 2 count) (take (4 * count) (drop 4 text)) (drop (4 + 4 * count) text)) in
    record {
      part = take 2 text ++ (big_bytes 2 count ++ take (4 * count) (drop 4 text));
      is_part = record {
        open_bytes = take 2 text;
        count = count;
        words = take (4 * count) (drop 4 text);
        two_bytes = omega (arith, length-take 2 text, long);
        count_fits = big_from-lt 0 2 (drop 2 text) (IsBytes-drop 2 text h);
        all_words = omega (arith, length-take (4 * count) (drop 4 text), length-drop 4 text, long);
        text = refl;
      };
      front = opened ∙ ap (λ (x : List ℕ). take 2 text ++ x) inner
          ∙ sym (append_assoc (take 2 text) (big_bytes 2 count ++ take (4 * count) (drop 4 text)) (drop (4 + 4 * count) text));
    }

-- A padding part at the end of a text, by the padding bit.
record HasPaddingEnd (padded : Bool) (text : List ℕ) : Type 0 where
  part : List ℕ
  is_part : IsPaddingPart padded part
  end : text ≡ (if padded then before_padding text else text) ++ part

padding_there : (padded : Bool) (text : List ℕ) → IsBytes text → (IsTrue padded → IsPadded text) → HasPaddingEnd padded text
padding_there false text h fits = record { part = []; is_part = refl; end = sym (append-nil text) }
padding_there true text h fits =
    let is : IsPadded text = fits refl in
    let count : ℕ = last_byte text in
    let small : count < 256 = h (length text - 1) in
    let part : List ℕ = drop (length text - count) text in
    let long : length part ≡ count = omega (arith, length-drop (length text - count) text, is) in
    let last : get_or part (count - 1) 0 ≡ count =
    get_or-drop (length text - count) text (count - 1) 0 ∙ ap (λ (n : ℕ). get_or text n 0) (omega (arith, is)) in
    let split : part ≡ take (count - 1) part ++ drop (count - 1) part = sym (take-append-drop (count - 1) part) in
    let one : drop (count - 1) part ≡ get_or part (count - 1) 0 ∷ drop (suc (count - 1)) part = drop-cons part (count - 1) 0 (omega (arith, long, is)) in
    let none : drop (suc (count - 1)) part ≡ [] = drop_all (suc (count - 1)) part (omega (arith, long, is)) in
    let filler : length (take (count - 1) part) ≡ count - 1 = omega (arith, length-take (count - 1) part, long) in
    let number : get_or part (count - 1) 0 ≡ length (take (count - 1) part) + 1 = last ∙ omega (arith, filler, is) in
    record {
      part = part;
      is_part = (
        take (count - 1) part,
        omega (arith, filler, small, is),
        split
            ∙ ap (λ (x : List ℕ). take (count - 1) part ++ x) (one ∙ ap (λ (x : List ℕ). get_or part (count - 1) 0 ∷ x) none
            ∙ ap (λ (n : ℕ). n ∷ []) number),
      );
      end = sym (take-append-drop (length text - count) text);
    }

either_bytes : (extended : Bool) (n : ℕ) (text : List ℕ) → IsBytes text → IsBytes (if extended then drop n text else text)
either_bytes true n text h = IsBytes-drop n text h
either_bytes false n text h = h

-- Where all parts are there, the bytes are a packet.
pub HasAllParts-IsRtp : (bytes : List ℕ) → IsBytes bytes → HasAllParts bytes → IsRtp bytes (head_in bytes) (is_marked bytes) (payload_in bytes)
HasAllParts-IsRtp bytes h parts =
    let count : ℕ = slice_index bytes 0 % 16 in
    let few : count < 16 = omega arith in
    let until_csrcs = parts.0.0 in
    let long : 12 ≤ length bytes = until_csrcs.0.0 in
    let fixed = fixed_part_there bytes long h until_csrcs.0.1 in
    let csrcs : drop 12 bytes ≡ take (4 * count) (drop 12 bytes) ++ behind_csrcs bytes =
    sym (take-append-drop (4 * count) (drop 12 bytes)) ∙ ap (λ (x : List ℕ). take (4 * count) (drop 12 bytes) ++ x) (drop-drop (4 * count) 12 bytes) in
    let extension = extension_there (is_extended bytes) (behind_csrcs bytes) (IsBytes-drop (csrc_end bytes) bytes h) parts.0.1 in
    let rest_bytes : IsBytes (behind_extension bytes) =
    either_bytes (is_extended bytes) (extension_length (behind_csrcs bytes)) (behind_csrcs bytes) (IsBytes-drop (csrc_end bytes) bytes h) in
    let padding = padding_there (is_padded bytes) (behind_extension bytes) rest_bytes parts.1 in
    record {
      padded = is_padded bytes;
      extended = is_extended bytes;
      count = count;
      csrcs = take (4 * count) (drop 12 bytes);
      extension = extension.part;
      padding = padding.part;
      in_range = (
        omega arith,
        big_from-lt 0 2 (drop 2 bytes) (IsBytes-drop 2 bytes h),
        big_from-lt 0 4 (drop 4 bytes) (IsBytes-drop 4 bytes h),
        big_from-lt 0 4 (drop 8 bytes) (IsBytes-drop 8 bytes h),
      );
      csrc_part = (few, omega (arith, length-take (4 * count) (drop 12 bytes), length-drop 12 bytes, until_csrcs.1));
      extension_part = extension.is_part;
      padding_part = padding.is_part;
      text =
          fixed ∙ ap (λ (x : List ℕ). fixed_part (is_padded bytes) (is_extended bytes) count (is_marked bytes) (head_in bytes) ++ x)
          (csrcs ∙ ap (λ (x : List ℕ). take (4 * count) (drop 12 bytes) ++ x) (extension.front
          ∙ ap (λ (x : List ℕ). extension.part ++ x) padding.end));
    }
