-- The reading of bytes as a packet, as a function: what the packet layout says, for definitions
-- that compute. (RFC 3550, sections 5.1 and 5.3.1)
use Rattle.std.specs.Prelude.{ℕ, Bool, not, ◌&&◌, ◌||◌, ◌==◌, nat_le}
use Rattle.std.specs.Prelude.{if◌then◌else◌, List, length, Option, Some, None}
use Rattle.rtp_pcm.specs.declared.packet.Head.{Head}
use Rattle.rtp_pcm.specs.Places.{version, is_padded, is_extended, is_marked}
use Rattle.rtp_pcm.specs.Places.{head_in, csrc_end, behind_csrcs, extension_length}
use Rattle.rtp_pcm.specs.Places.{behind_extension, last_byte, payload_in}

-- What a packet says. (RFC 3550, section 5.1)
pub record RtpReading : Type 0 where
  pub head : Head
  pub marker : Bool
  pub payload : List ℕ

-- The fixed part, the version and the CSRC part are there.
abbrev pub has_csrcs : List ℕ → Bool
has_csrcs bytes = nat_le 12 (length bytes) && (version bytes == 2)
    && nat_le (csrc_end bytes) (length bytes)

-- The extension is there, or none is said to be.
abbrev pub has_extension : List ℕ → Bool
has_extension bytes =
    not (is_extended bytes) || nat_le (extension_length (behind_csrcs bytes))
    (length (behind_csrcs bytes))

-- The padding is there, or none is said to be.
abbrev pub has_padding : List ℕ → Bool
has_padding bytes =
    not (is_padded bytes)
    || (nat_le 1 (last_byte (behind_extension bytes))
    && nat_le (last_byte (behind_extension bytes)) (length (behind_extension bytes)))

-- All parts are there.
abbrev pub has_all_parts : List ℕ → Bool
has_all_parts bytes = has_csrcs bytes && has_extension bytes && has_padding bytes

-- The reading of these bytes, and None where they are no packet.
unfoldable pub reading_of : List ℕ → Option RtpReading
reading_of bytes =
    if has_all_parts bytes
    then Some (record {
      head = head_in bytes;
      marker = is_marked bytes;
      payload = payload_in bytes;
    }) else None
