-- Input blocks: what an input's packets and the readings of the clock make of its ticks. (This
-- project's own; the reading of a packet, and that timestamps count frames and wrap, are of RFC
-- 3550, section 5.1.)
--
-- Ticks are counted from the session's first one, `base`. Frames are told by places: place 2^31 is
-- the session's first frame, so that a packet that begins up to 2^31 frames before it has a place
-- too. `-` stops at 0.
use Rattle.std.specs.Prelude.{◌≡◌, ℕ, ◌+◌, ◌-◌, ◌*◌, ◌/◌, ◌%◌, ◌==◌, ◌&&◌, ◌||◌, Bool, true, false}
use Rattle.std.specs.Prelude.{nat_le, nat_lt, if◌then◌else◌, List, [], ◌++◌, ◌∷◌, length, take}
use Rattle.std.specs.Prelude.{drop, map, replicate, slice_get, All, Option, Some, None, is_some}
use Rattle.std.specs.Prelude.{option_and_then, unwrap_or, min, max, ℤ, pos}
use Rattle.std.specs.List.{find, flat_map, list_any, range_with_len}
use Rattle.std.specs.Option.{option_map}
use Rattle.io_caps.specs.Rate.{bytes_per_sample}
use Rattle.io_caps.specs.declared.rate.Width.{Width}
use Rattle.io_caps.specs.declared.device.DeviceParts.{DeviceParts}
use Rattle.io_caps.specs.declared.port.Input.{Input}
use Rattle.rtp_pcm.specs.Pcm.{IsSample, sample_of}
use Rattle.rtp_pcm.specs.declared.packet.Head.{Head}
use Rattle.rtp_pcm.specs.Reading.{RtpReading, reading_of}
use Rattle.block_builder.specs.declared.arrival.Arrival.{Arrival}
use Rattle.block_builder.specs.declared.arrival.Arrival.TheVariants.{Packet, Mark, End}
use Rattle.block_builder.specs.declared.intake.Intake.{Intake}
use Rattle.block_builder.specs.declared.intake.TheConstants.{HALF, WHOLE}

-- What rules the blocks of an input of this device, in a session of a given number of ticks.
abbrev pub intake_for : DeviceParts → Input → ℕ → Intake
intake_for d i ticks =
    record {
      payload_type = i.payload_type;
      channels = length i.labels;
      width = i.width;
      frames = d.rate.frames;
      base = d.base;
      hold = d.hold;
      ticks = ticks;
    }

-- the same by the input's number, and none where it is not there
abbrev pub intake_of : DeviceParts → ℕ → ℕ → Option Intake
intake_of d input ticks = option_map (λ i. intake_for d i ticks) (slice_get d.inputs input)

-- ---- places

-- the place of a packet's first frame: the one below 2^32 that its timestamp leaves, since the
-- session's first frame has the timestamp `base * frames` (RFC 3550, section 5.1)
abbrev pub first_place : Intake → ℕ → ℕ
first_place n timestamp = (timestamp + HALF + (WHOLE - n.base * n.frames % WHOLE)) % WHOLE

-- the place of the first frame of a tick
abbrev pub tick_place : Intake → ℕ → ℕ
tick_place n tick = HALF + tick * n.frames

-- the tick of a place, and 0 before the first
abbrev pub tick_at : Intake → ℕ → ℕ
tick_at n place = (place - HALF) / n.frames

-- ---- what counts

-- What a packet that counts brings: a given number of frames from a place on, with their samples,
-- and the tick of its last frame, which may lie past the session's end. A reading of the clock
-- brings no frame, and its tick is the last.
pub record Piece : Type 0 where
  pub first : ℕ
  pub count : ℕ
  pub last : ℕ
  pub payload : List ℕ

-- how many bytes a frame has in a payload
abbrev pub frame_bytes : Intake → ℕ
frame_bytes n = n.channels * bytes_per_sample n.width

-- A packet counts where its payload type is the input's, its payload is whole frames and at least
-- one, and its first frame lies before the session's end.
abbrev pub counts : Intake → Head → List ℕ → Bool
counts n head payload =
    (head.payload_type == n.payload_type) && (length payload % frame_bytes n == 0)
    && nat_lt 0 (length payload)
    && nat_lt (first_place n head.timestamp) (tick_place n n.ticks)

-- what a payload brings whose first frame is at a place
abbrev pub piece_at : Intake → ℕ → List ℕ → Piece
piece_at n first payload =
    let count = length payload / frame_bytes n in
    record { first = first; count = count; last = tick_at n (first + count - 1); payload = payload }

-- what a packet brings
abbrev pub packet_pieces : Intake → Head → List ℕ → List Piece
packet_pieces n head payload =
    if counts n head payload then piece_at n (first_place n head.timestamp) payload ∷ [] else []

-- what a reading of the clock in a tick brings: no frame
abbrev pub clock_piece : ℕ → Piece
clock_piece tick = record { first = 0; count = 0; last = tick; payload = [] }

-- what bytes bring, as they read: nothing where they are no packet
abbrev pub read_pieces : Intake → Option RtpReading → List Piece
read_pieces n None = []
read_pieces n (Some r) = packet_pieces n r.head r.payload

-- What an arrival brings. A packet that does not read or does not count brings nothing. The end is
-- a reading of the clock past all ticks of the session.
abbrev pub pieces_by : Intake → Arrival → List Piece
pieces_by n (Packet bytes) = read_pieces n (reading_of bytes)
pieces_by n (Mark tick) = clock_piece (tick - n.base) ∷ []
pieces_by n End = clock_piece (n.ticks + n.hold) ∷ []

-- what all arrivals bring, in order
unfoldable pub pieces_of : Intake → List Arrival → List Piece
pieces_of n arrivals = flat_map (pieces_by n) arrivals

-- ---- closed ticks

-- a tick is closed by what has its last frame more than `hold` ticks behind it
abbrev pub closes : Intake → ℕ → Piece → Bool
closes n tick p = nat_lt (tick + n.hold) p.last

-- whether a tick is closed by one of what was brought
abbrev pub is_closed : Intake → List Piece → ℕ → Bool
is_closed n pieces tick = list_any (closes n tick) pieces

-- how many ticks of the session are closed: they are its first ones
abbrev pub closed_by : Intake → List Piece → ℕ
closed_by n [] = 0
closed_by n (p ∷ ps) = max (min n.ticks (p.last - n.hold)) (closed_by n ps)

-- how many ticks of the session all arrivals close
abbrev pub closed_of : Intake → List Arrival → ℕ
closed_of n arrivals = closed_by n (pieces_of n arrivals)

-- ---- what a frame holds

-- whether what a packet brings has a frame at a place
abbrev pub covers : ℕ → Piece → Bool
covers place p = nat_le p.first place && nat_lt place (p.first + p.count)

-- The packet whose samples a frame of a tick holds, in words: the first that covers it, where no
-- piece before it closes the tick. (`closes` comes after `covers`: a packet is stored first and
-- closes afterwards.)
pub record IsHolder (n : Intake) (pieces : List Piece) (tick place : ℕ) (p : Piece) : Type 0 where
  pub before : List Piece
  pub after : List Piece
  pub stands : pieces ≡ before ++ p ∷ after
  pub covered : covers place p ≡ true
  pub first : All (λ q. covers place q ≡ false) before
  pub opened : All (λ q. closes n tick q ≡ false) before

-- whether a frame of a tick is decided by a piece: it covers the frame, or closes the tick
abbrev pub decides : Intake → ℕ → ℕ → Piece → Bool
decides n tick place p = covers place p || closes n tick p

-- the same packet as a function: the first piece that decides, where it covers the frame
abbrev pub holder : Intake → List Piece → ℕ → ℕ → Option Piece
holder n pieces tick place =
    option_and_then (λ p. (if covers place p then Some p else None))
    (find (decides n tick place) pieces)

-- a given number of samples of a payload in order (RFC 3551, sections 4.3 and 4.5.11, and RFC 3190,
-- section 4)
abbrev pub samples_in : Width → ℕ → List ℕ → List ℤ
samples_in width count payload =
    let size = bytes_per_sample width in
    map (λ i. sample_of width (take size (drop (i * size) payload))) (range_with_len 0 count)

-- the samples of one frame
abbrev pub samples_of : Intake → List ℕ → List ℤ
samples_of n payload = samples_in n.width n.channels payload

-- the samples of a piece at a place that it covers: a sample for each channel
abbrev pub piece_frame : Intake → ℕ → Piece → List ℤ
piece_frame n place p = samples_of n (drop ((place - p.first) * frame_bytes n) p.payload)

-- What the frames of a tick hold: the samples of each, or nothing.
abbrev pub Held : Type 0
Held = ℕ → Option (List ℤ)

-- what each frame of a tick holds, after all that was brought
unfoldable pub held_at : Intake → List Piece → ℕ → Held
held_at n pieces tick frame =
    let place = tick_place n tick + frame
    in option_map (piece_frame n place) (holder n pieces tick place)

-- ---- blocks

-- whether a frame of a tick holds anything
abbrev pub is_held : Intake → Held → Bool
is_held n held = list_any (λ frame. is_some (held frame)) (range_with_len 0 n.frames)

-- the samples of a tick, frame by frame; silence where a frame holds none
abbrev pub tick_samples : Intake → Held → List ℤ
tick_samples n held =
    flat_map (λ frame. unwrap_or (held frame) (replicate n.channels (pos 0)))
    (range_with_len 0 n.frames)

-- the block by what the frames of a tick hold: none where none of them holds anything
abbrev pub block_by : Intake → Held → Option (List ℤ)
block_by n held = if is_held n held then Some (tick_samples n held) else None

-- The block of a tick: its samples frame by frame, each frame in channel order; or none, where no
-- frame of it holds a packet's samples.
unfoldable pub block_at : Intake → List Arrival → ℕ → Option (List ℤ)
block_at n arrivals tick = block_by n (held_at n (pieces_of n arrivals) (tick - n.base))

-- The block of an input of a device at a tick, in a session of a given number of ticks from the
-- device's first one.
abbrev pub block_of : DeviceParts → ℕ → ℕ → List Arrival → ℕ → Option (List ℤ)
block_of d input ticks arrivals tick =
    option_and_then (λ n. block_at n arrivals tick) (intake_of d input ticks)

-- the shape of a block: a sample, which is a signed number of 24 bits, for each channel of each
-- frame
pub record IsBlock (n : Intake) (block : List ℤ) : Type 0 where
  pub long : length block ≡ n.frames * n.channels
  pub samples : All IsSample block
