-- RTP packets as texts of bytes: their parts stand one after the other.
use Rattle.std.specs.Prelude.{◌≡◌, ◌<◌, ℕ, ◌+◌, ◌*◌, ◌^◌, Bool, true}
use Rattle.std.specs.Prelude.{false, List, [], ◌∷◌, ◌++◌, length}
use Rattle.byteorder.specs.Endian.{big_bytes}
use Rattle.rtp_pcm.specs.declared.packet.Head.{Head}

-- A bit that counts this much.
abbrev pub bit : Bool → ℕ → ℕ
bit false value = 0
bit true value = value

-- The fields are numbers of 7, 16, 32 and 32 bits. (RFC 3550, section 5.1)
abbrev pub IsHead : Head → Type 0
IsHead head = (head.payload_type < 2 ^ 7) × (head.sequence < 2 ^ 16) × (head.timestamp < 2 ^ 32)
    × (head.ssrc < 2 ^ 32)

-- The fixed part, of 12 bytes: version 2, the padding bit, the extension bit and the number of
-- CSRCs; the marker bit and the payload type; sequence number, timestamp and SSRC, the most
-- significant byte first. (RFC 3550, section 5.1)
abbrev pub fixed_part : Bool → Bool → ℕ → Bool → Head → List ℕ
fixed_part padded extended count marker head =
    (2 * 64 + bit padded 32 + bit extended 16 + count) ∷ (bit marker 128 + head.payload_type)
    ∷ (big_bytes 2 head.sequence ++ (big_bytes 4 head.timestamp ++ big_bytes 4 head.ssrc))

-- The CSRC part: at most 15 words of 4 bytes. (RFC 3550, section 5.1)
abbrev pub IsCsrcPart : ℕ → List ℕ → Type 0
IsCsrcPart count part = (count < 16) × (length part ≡ 4 * count)

-- An extension: 2 bytes whose meaning is open, the number of words in 2 bytes, and that many words
-- of 4 bytes. (RFC 3550, section 5.3.1)
pub record IsExtension (part : List ℕ) : Type 0 where
  pub open_bytes : List ℕ
  pub count : ℕ
  pub words : List ℕ
  pub two_bytes : length open_bytes ≡ 2
  pub count_fits : count < 2 ^ 16
  pub all_words : length words ≡ 4 * count
  pub text : part ≡ open_bytes ++ (big_bytes 2 count ++ words)

-- The extension part, by the extension bit. (RFC 3550, section 5.3.1)
abbrev pub IsExtensionPart : Bool → List ℕ → Type 0
IsExtensionPart false part = part ≡ []
IsExtensionPart true part = IsExtension part

-- The padding part, by the padding bit: 1 to 255 bytes, the last of which counts them all. (RFC
-- 3550, section 5.1)
abbrev pub IsPaddingPart : Bool → List ℕ → Type 0
IsPaddingPart false part = part ≡ []
IsPaddingPart true part = (filler : List ℕ) × (length filler < 255)
    × (part ≡ filler ++ (length filler + 1) ∷ [])

-- These bytes are a packet with this head, marker bit and payload: fixed part, CSRC part, extension
-- part, payload and padding part, one after the other. (RFC 3550, sections 5.1 and 5.3.1)
pub record IsRtp (bytes : List ℕ) (head : Head) (marker : Bool) (payload : List ℕ) : Type 0 where
  pub padded : Bool
  pub extended : Bool
  pub count : ℕ
  pub csrcs : List ℕ
  pub extension : List ℕ
  pub padding : List ℕ
  pub in_range : IsHead head
  pub csrc_part : IsCsrcPart count csrcs
  pub extension_part : IsExtensionPart extended extension
  pub padding_part : IsPaddingPart padded padding
  pub text : bytes ≡ fixed_part padded extended count marker head
      ++ (csrcs ++ (extension ++ (payload ++ padding)))

-- The packet that is written: no padding, no extension, no CSRCs and no marker. (This project's own
-- choice of RFC 3550, section 5.1)
abbrev pub rtp_packet : Head → List ℕ → List ℕ
rtp_packet head payload = fixed_part false false 0 false head ++ payload
