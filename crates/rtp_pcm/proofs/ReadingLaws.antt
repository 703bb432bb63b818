-- The reading as a function is that of the packet layout.
use Rattle.std.proofs.Common.{◌≡◌, ℕ, Bool, true, false, not, ◌&&◌, ◌||◌}
use Rattle.std.proofs.Common.{cond, List, length, Option, Some, None, refl, subst, ◌∙◌}
use Rattle.std.specs.Prelude.{nat_le, ◌==◌, IsTrue}
use Rattle.std.proofs.lemmas.Bool.{and_parts, and_from, eqb-true, eq-eqb, leb-true, le-leb}
use Rattle.std.proofs.lemmas.Option.{cond_some}
use Rattle.rtp_pcm.specs.declared.packet.Head.{Head}
use Rattle.rtp_pcm.specs.Packet.{IsRtp}
use Rattle.rtp_pcm.proofs.PacketLaws.{IsBytes, IsRtp-stands, HasAllParts-IsRtp}
use Rattle.rtp_pcm.specs.Places.{version, is_padded, is_extended, is_marked, head_in, csrc_end, behind_csrcs}
use Rattle.rtp_pcm.specs.Places.{extension_length, behind_extension, last_byte, payload_in, HasAllParts, IsPadded}
use Rattle.rtp_pcm.specs.Reading.{RtpReading, has_csrcs, has_extension, has_padding, has_all_parts, reading_of}

-- a test that is made only where a bit is set
when_set : (b t : Bool) → (not b || t) ≡ true → IsTrue b → t ≡ true
when_set true t h e = h
when_set false t h e = absurd cc

set_when : (b t : Bool) → (IsTrue b → t ≡ true) → (not b || t) ≡ true
set_when true t h = h refl
set_when false t h = refl

padded_there : (text : List ℕ) → (nat_le 1 (last_byte text) && nat_le (last_byte text) (length text)) ≡ true → IsPadded text
padded_there text h =
    let both = and_parts (nat_le 1 (last_byte text)) (nat_le (last_byte text) (length text)) h in
    (leb-true 1 (last_byte text) both.0, leb-true (last_byte text) (length text) both.1)

there_padded : (text : List ℕ) → IsPadded text → (nat_le 1 (last_byte text) && nat_le (last_byte text) (length text)) ≡ true
there_padded text h =
    and_from (nat_le 1 (last_byte text)) (nat_le (last_byte text) (length text)) (le-leb 1 (last_byte text) h.0) (le-leb (last_byte text) (length text) h.1)

pub parts-there : (bytes : List ℕ) → has_all_parts bytes ≡ true → HasAllParts bytes
parts-there bytes h =
    let both = and_parts (has_csrcs bytes && has_extension bytes) (has_padding bytes) h in
    let front = and_parts (has_csrcs bytes) (has_extension bytes) both.0 in
    let csrcs = and_parts (nat_le 12 (length bytes) && (version bytes == 2)) (nat_le (csrc_end bytes) (length bytes)) front.0 in
    let fixed = and_parts (nat_le 12 (length bytes)) (version bytes == 2) csrcs.0 in (
      (
        ((leb-true 12 (length bytes) fixed.0, eqb-true (version bytes) 2 fixed.1), leb-true (csrc_end bytes) (length bytes) csrcs.1),
        λ e. leb-true (extension_length (behind_csrcs bytes)) (length (behind_csrcs bytes)) (when_set (is_extended bytes) _ front.1 e),
      ),
      λ e. padded_there (behind_extension bytes) (when_set (is_padded bytes) _ both.1 e),
    )

pub there-parts : (bytes : List ℕ) → HasAllParts bytes → has_all_parts bytes ≡ true
there-parts bytes h =
    let csrcs_there = h.0.0 in
    let fixed_there = csrcs_there.0 in
    let long = le-leb 12 (length bytes) fixed_there.0 in
    let fixed = and_from (nat_le 12 (length bytes)) (version bytes == 2) long (eq-eqb (version bytes) 2 fixed_there.1) in
    let csrcs = and_from (nat_le 12 (length bytes) && (version bytes == 2)) (nat_le (csrc_end bytes) (length bytes)) fixed
    (le-leb (csrc_end bytes) (length bytes) csrcs_there.1) in
    let extension = set_when (is_extended bytes) _ (λ e. le-leb (extension_length (behind_csrcs bytes)) (length (behind_csrcs bytes)) (h.0.1 e)) in
    let padding = set_when (is_padded bytes) _ (λ e. there_padded (behind_extension bytes) (h.1 e)) in
    and_from (has_csrcs bytes && has_extension bytes) (has_padding bytes) (and_from (has_csrcs bytes) (has_extension bytes) csrcs extension) padding

-- a reading that there is
abbrev given : RtpReading → Option RtpReading
given r = Some r

none_where : (b : Bool) (r : RtpReading) → (b ≡ true → ⊥) → cond b (given r) None ≡ None
none_where true r h = absurd (h refl)
none_where false r h = refl

-- Bytes with all parts have the reading that stands at the places.
pub reading-there : (bytes : List ℕ) → HasAllParts bytes
    → reading_of bytes ≡ Some (record { head = head_in bytes; marker = is_marked bytes; payload = payload_in bytes })
unfolding reading_of
reading-there bytes h = rw (there-parts bytes h) refl

pub reading-missing : (bytes : List ℕ) → (HasAllParts bytes → ⊥) → reading_of bytes ≡ None
unfolding reading_of
reading-missing bytes h = none_where (has_all_parts bytes) _ (λ t. h (parts-there bytes t))

-- A packet has its reading.
pub IsRtp-reading : (bytes : List ℕ) (head : Head) (marker : Bool) (payload : List ℕ) → IsRtp bytes head marker payload
    → reading_of bytes ≡ Some (record { head = head; marker = marker; payload = payload })
IsRtp-reading bytes head marker payload r =
    let there = IsRtp-stands bytes head marker payload r in
    reading-there bytes there.parts ∙ rw (there.fields, there.marked, there.rest) refl

-- What has a reading is a packet.
pub reading-IsRtp : (bytes : List ℕ) (r : RtpReading) → IsBytes bytes → reading_of bytes ≡ Some r → IsRtp bytes r.head r.marker r.payload
unfolding reading_of
reading-IsRtp bytes r fits e =
    let found = cond_some (has_all_parts bytes) (record { head = head_in bytes; marker = is_marked bytes; payload = payload_in bytes }) r e in
    subst (λ (x : RtpReading). IsRtp bytes x.head x.marker x.payload) found.1 (HasAllParts-IsRtp bytes fits (parts-there bytes found.0))
