-- Where the parts of a packet lie in its bytes, and the faults of bytes that are none. (RFC 3550,
-- sections 5.1 and 5.3.1)
use Rattle.std.specs.Prelude.{◌≡◌, ◌≢◌, ◌≤◌, ◌<◌, ◌⊎◌, ℕ, ◌+◌, ◌-◌, ◌*◌, ◌/◌, ◌%◌, Bool, ◌==◌}
use Rattle.std.specs.Prelude.{IsTrue, if◌then◌else◌, List, length, take, drop, slice_index}
use Rattle.byteorder.specs.Endian.{big_number}
use Rattle.rtp_pcm.specs.declared.packet.Head.{Head}

-- ---- the fields of the fixed part

-- V, the highest two bits
abbrev pub version : List ℕ → ℕ
version bytes = slice_index bytes 0 / 64

-- P, the padding bit
abbrev pub is_padded : List ℕ → Bool
is_padded bytes = slice_index bytes 0 / 32 % 2 == 1

-- X, the extension bit
abbrev pub is_extended : List ℕ → Bool
is_extended bytes = slice_index bytes 0 / 16 % 2 == 1

-- M, the marker bit
abbrev pub is_marked : List ℕ → Bool
is_marked bytes = slice_index bytes 1 / 128 % 2 == 1

-- PT, sequence number, timestamp and SSRC
abbrev pub head_in : List ℕ → Head
head_in bytes = record {
  payload_type = slice_index bytes 1 % 128;
  sequence = big_number 2 (drop 2 bytes);
  timestamp = big_number 4 (drop 4 bytes);
  ssrc = big_number 4 (drop 8 bytes);
}

-- ---- the parts after it

-- where the CSRC part ends
abbrev pub csrc_end : List ℕ → ℕ
csrc_end bytes = 12 + 4 * (slice_index bytes 0 % 16)

-- what follows the CSRC part
abbrev pub behind_csrcs : List ℕ → List ℕ
behind_csrcs bytes = drop (csrc_end bytes) bytes

-- how long an extension is that stands in front of a text
abbrev pub extension_length : List ℕ → ℕ
extension_length text = 4 + 4 * big_number 2 (drop 2 text)

-- what follows the extension, where there is one: payload and padding
abbrev pub behind_extension : List ℕ → List ℕ
behind_extension bytes = if is_extended bytes
    then drop (extension_length (behind_csrcs bytes)) (behind_csrcs bytes) else behind_csrcs bytes

-- the last byte, and 0 where there is none
abbrev pub last_byte : List ℕ → ℕ
last_byte text = slice_index text (length text - 1)

-- a text without the padding at its end, which its last byte counts
abbrev pub before_padding : List ℕ → List ℕ
before_padding text = take (length text - last_byte text) text

-- the payload: what follows the extension, without padding
abbrev pub payload_in : List ℕ → List ℕ
payload_in bytes = if is_padded bytes then before_padding (behind_extension bytes)
    else behind_extension bytes

-- ---- what is there

-- the fixed part, 12 bytes
abbrev pub HasFixedPart : List ℕ → Type 0
HasFixedPart bytes = 12 ≤ length bytes

-- and the version is 2
abbrev pub HasVersion : List ℕ → Type 0
HasVersion bytes = HasFixedPart bytes × (version bytes ≡ 2)

-- and the CSRC identifiers, as many as the head counts
abbrev pub HasCsrcPart : List ℕ → Type 0
HasCsrcPart bytes = HasVersion bytes × (csrc_end bytes ≤ length bytes)

-- and the extension, where its bit is set
abbrev pub HasExtensionPart : List ℕ → Type 0
HasExtensionPart bytes =
    HasCsrcPart bytes
    × (IsTrue (is_extended bytes)
    → extension_length (behind_csrcs bytes) ≤ length (behind_csrcs bytes))

-- the last byte counts padding: at least itself, and no more bytes than there are
abbrev pub IsPadded : List ℕ → Type 0
IsPadded text = (1 ≤ last_byte text) × (last_byte text ≤ length text)

-- and the padding, where its bit is set: so all parts
abbrev pub HasAllParts : List ℕ → Type 0
HasAllParts bytes = HasExtensionPart bytes
    × (IsTrue (is_padded bytes) → IsPadded (behind_extension bytes))

-- ---- the faults: what is there up to a part, and that the part is not

-- the bytes end within the fixed part
abbrev pub IsShort : List ℕ → Type 0
IsShort bytes = length bytes < 12

-- the version is another than 2
abbrev pub IsOtherVersion : List ℕ → Type 0
IsOtherVersion bytes = HasFixedPart bytes × (version bytes ≢ 2)

-- the bytes end within the CSRC part
abbrev pub IsCsrcCut : List ℕ → Type 0
IsCsrcCut bytes = HasVersion bytes × (length bytes < csrc_end bytes)

-- the bytes end within the extension
abbrev pub IsExtensionCut : List ℕ → Type 0
IsExtensionCut bytes =
    HasCsrcPart bytes × IsTrue (is_extended bytes)
    × (length (behind_csrcs bytes) < extension_length (behind_csrcs bytes))

-- the last byte is missing, 0, or more than the bytes there
abbrev pub IsWrongPadding : List ℕ → Type 0
IsWrongPadding bytes =
    HasExtensionPart bytes × IsTrue (is_padded bytes)
    × ((last_byte (behind_extension bytes) ≡ 0)
    ⊎ (length (behind_extension bytes) < last_byte (behind_extension bytes)))
