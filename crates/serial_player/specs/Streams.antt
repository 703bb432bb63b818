-- The HTTP streams of a capture's clients, and what is answered to them. (This project's own.)
use Rattle.std.specs.Prelude.{◌≡◌, ℕ, ◌<◌, eqb, if◌then◌else◌, List, [], take}
use Rattle.std.specs.List.{AllByRecursion, flat_map}
use Rattle.io_caps.specs.declared.limits.TheConstants.{CLIENTS}
use Rattle.http_wire.specs.Stream.{Answer, IsAnswered, IsWaiting, Stand, holds, ended}
use Rattle.capture_file.specs.declared.items.Item.{Item}
use Rattle.capture_file.specs.declared.items.Item.TheVariants.{Packet, Piece, Ask, Work}

-- A record, and what the stream of its client is answered at it: nothing, where it brings no piece
-- of one.
pub record Turn : Type 0 where
  pub item : Item
  pub answers : List Answer

-- a record with these answers
abbrev pub turn : Item → List Answer → Turn
turn item answers = record { item = item; answers = answers }

-- what a record has for a client, where it brings a piece of its stream
abbrev pub if_piece_of : {A : Type 0} → ℕ → Item → (List ℕ → List A) → List A
if_piece_of client (Packet input bytes) f = []
if_piece_of client (Piece of bytes) f = if eqb of client then f bytes else []
if_piece_of client (Ask of request) f = []
if_piece_of client (Work claims) f = []

-- the bytes of a client's stream that a record brings
abbrev pub bytes_in : ℕ → Turn → List ℕ
bytes_in client t = if_piece_of client t.item (λ bytes. bytes)

-- what a client's stream is answered at a record
abbrev pub answers_in : ℕ → Turn → List Answer
answers_in client t = if_piece_of client t.item (λ bytes. t.answers)

-- the bytes of a client's stream
abbrev pub bytes_of : ℕ → List Turn → List ℕ
bytes_of client turns = flat_map (bytes_in client) turns

-- what it is answered
abbrev pub answers_of : ℕ → List Turn → List Answer
answers_of client turns = flat_map (answers_in client) turns

-- nothing is due to a stream before more of its bytes come
abbrev pub IsSettled : Stand → Type 0
IsSettled (holds bytes) = IsWaiting bytes
IsSettled ended = Unit {0}

-- by these records a client's stream is answered all that its bytes so far ask, and nothing else
pub record IsHeard (client : ℕ) (turns : List Turn) : Type 0 where
  pub stand : Stand
  pub answered : IsAnswered (bytes_of client turns) (answers_of client turns) stand
  pub settled : IsSettled stand

-- nothing is answered at a record that brings no piece of a stream
abbrev pub AtPieces : Item → List Answer → Type 0
AtPieces (Packet input bytes) answers = answers ≡ []
AtPieces (Piece client bytes) answers = Unit {0}
AtPieces (Ask client request) answers = answers ≡ []
AtPieces (Work claims) answers = answers ≡ []

-- The answers are those of the streams: after each record, each client's stream is answered all
-- that its bytes so far ask, and nothing else; and nothing is answered at other records.
pub record AreStreams (turns : List Turn) : Type 0 where
  pub heard : (client count : ℕ) → client < CLIENTS → IsHeard client (take count turns)
  pub at_pieces : AllByRecursion (λ t. AtPieces t.item t.answers) turns
