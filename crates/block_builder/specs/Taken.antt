-- What becomes of a packet. (This project's own; the faults of bytes that are no packet are of RFC
-- 3550, sections 5.1 and 5.3.1.)
use Rattle.std.specs.Prelude.{◌≡◌, ℕ, zero, suc, ◌+◌, ◌%◌, ◌==◌, ◌&&◌, not, Bool, nat_le, nat_lt}
use Rattle.std.specs.Prelude.{if◌then◌else◌, List, length, MatchOption}
use Rattle.std.specs.List.{count_by, list_any, range_with_len, sum_by}
use Rattle.rtp_pcm.specs.declared.packet.Head.{Head}
use Rattle.rtp_pcm.specs.declared.packet.RtpFault.{RtpFault}
use Rattle.rtp_pcm.specs.declared.packet.RtpFault.TheVariants.{Short, Version, CsrcCut}
use Rattle.rtp_pcm.specs.declared.packet.RtpFault.TheVariants.{ExtensionCut, Padding}
use Rattle.rtp_pcm.specs.Places.{IsShort, IsOtherVersion, IsCsrcCut, IsExtensionCut, IsWrongPadding}
use Rattle.rtp_pcm.specs.Reading.{reading_of}
use Rattle.block_builder.specs.declared.intake.Intake.{Intake}
use Rattle.block_builder.specs.declared.taken.PacketFault.TheVariants.{Rtp, PartFrame}
use Rattle.block_builder.specs.declared.taken.Taken.{Taken}
use Rattle.block_builder.specs.declared.taken.Taken.TheVariants.{Used, Spent, Beyond, Foreign}
use Rattle.block_builder.specs.declared.taken.Taken.TheVariants.{Misfit}
use Rattle.block_builder.specs.Blocks.{Piece, covers, decides, first_place, frame_bytes, piece_at}
use Rattle.block_builder.specs.Blocks.{tick_place}

-- whether a packet is the first to hold a frame of a tick: it covers it, and no piece before it
-- covers it or closes the tick
abbrev pub is_new : Intake → List Piece → Piece → ℕ → ℕ → Bool
is_new n pieces p tick frame =
    let place = tick_place n tick + frame
    in covers place p && not (list_any (decides n tick place) pieces)

-- how many frames of the session it is the first to hold
unfoldable pub new_frames : Intake → List Piece → Piece → ℕ
new_frames n pieces p =
    sum_by (λ tick. count_by (is_new n pieces p tick) (range_with_len 0 n.frames))
    (range_with_len 0 n.ticks)

-- the answer for a packet by how many frames of the session it is the first to hold
abbrev pub used_or_spent : ℕ → Taken
used_or_spent zero = Spent
used_or_spent (suc k) = Used (suc k)

-- the answer for a packet that was read: the first of the cases that applies
abbrev pub taken_by : Intake → List Piece → Head → List ℕ → Taken
taken_by n pieces head payload =
    let first = first_place n head.timestamp in
    if not (head.payload_type == n.payload_type) then Foreign head.payload_type
    else (if not (length payload % frame_bytes n == 0) then Misfit PartFrame
    else (if nat_le (tick_place n n.ticks) first then Beyond
    else (if nat_lt 0 (length payload)
    then used_or_spent (new_frames n pieces (piece_at n first payload))
    else Spent)))

-- a packet that does not read has this fault (RFC 3550, sections 5.1 and 5.3.1)
abbrev pub IsRtpFault : RtpFault → List ℕ → Type 0
IsRtpFault Short bytes = IsShort bytes
IsRtpFault Version bytes = IsOtherVersion bytes
IsRtpFault CsrcCut bytes = IsCsrcCut bytes
IsRtpFault ExtensionCut bytes = IsExtensionCut bytes
IsRtpFault Padding bytes = IsWrongPadding bytes

-- the answer for a packet
abbrev pub IsTaken : Intake → List Piece → List ℕ → Taken → Type 0
IsTaken n pieces bytes taken =
    MatchOption (reading_of bytes)
    ((fault : RtpFault) × (taken ≡ Misfit (Rtp fault)) × IsRtpFault fault bytes)
    (λ r. taken ≡ taken_by n pieces r.head r.payload)
