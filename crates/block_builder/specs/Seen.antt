-- What the yardstick sees of an arrival, as a piece. (This project's own.)
use Rattle.std.specs.Prelude.{ℕ, ◌*◌, ◌^◌, ◌<◌, ◌≤◌, ◌+◌, length}
use Rattle.block_builder.specs.declared.intake.Intake.{Intake}
use Rattle.block_builder.specs.declared.yardstick.Seen.{Seen}
use Rattle.block_builder.specs.Blocks.{Piece, frame_bytes}

-- what is seen of an arrival, as what it brings
abbrev pub piece_seen : Seen → Piece
piece_seen s = record { first = s.first; count = s.count; last = s.last; payload = s.payload.now }

-- its place is one of a packet, and all its frames are there
abbrev pub IsSeen : Intake → Seen → Type 0
IsSeen n s = (s.first < 2 ^ 32) × (s.count * frame_bytes n ≤ length s.payload.now)

-- it has a frame at a place
abbrev pub HasFrame : ℕ → Seen → Type 0
HasFrame place s = (s.first ≤ place) × (place < s.first + s.count)
