-- How the records of a capture are resolved to steps. (This project's own.)
use Rattle.std.specs.Prelude.{◌≡◌, ℕ, suc, ◌<◌, List, [], ◌∷◌, ◌++◌, length, map, slice_index_or}
use Rattle.std.specs.Prelude.{Option, Some, None}
use Rattle.std.specs.List.{AllByRecursion}
use Rattle.io_caps.specs.declared.limits.TheConstants.{CLIENTS}
use Rattle.http_wire.specs.Response.{IsStatus}
use Rattle.http_wire.specs.Stream.{Answer, AnswersOn, IsAnswered, Stand, Steps, holds, ended}
use Rattle.http_wire.specs.declared.stream.Next.{Next}
use Rattle.http_wire.specs.declared.stream.Next.TheVariants as next
use Rattle.capture_file.specs.declared.items.Item.{Item}
use Rattle.capture_file.specs.declared.items.Item.TheVariants.{Packet, Piece, Ask as AskItem, Work}
use Rattle.serial_player.specs.Asks.{IsAskThere, ask_of}
use Rattle.serial_player.specs.Serial.{IsStepThere, steps_of}
use Rattle.serial_player.specs.Streams.{AreStreams, IsSettled, Turn, answers_of, bytes_of}
use Rattle.serial_player.specs.declared.asks.ClientAsk.{ClientAsk}
use Rattle.serial_player.specs.declared.asks.Step.{Step}
use Rattle.serial_player.specs.declared.asks.Step.TheVariants.{Ask}

-- the client of a record is one
abbrev pub IsClientThere : Item → Type 0
IsClientThere (Packet input bytes) = Unit {0}
IsClientThere (Piece client bytes) = client < CLIENTS
IsClientThere (AskItem client request) = client < CLIENTS
IsClientThere (Work claims) = Unit {0}

-- ---- what is next of a stream

-- how much of a stream is left: its bytes, and its end
abbrev pub left_of : Stand → ℕ
left_of (holds bytes) = suc (length bytes)
left_of ended = 0

-- where nothing more is answered, nothing is due; and a stream is refused with a status that has a
-- response
abbrev pub IsDueNext : Next → Stand → Type 0
IsDueNext next.Need stand = IsSettled stand
IsDueNext (next.Request http) stand = Unit {0}
IsDueNext (next.Bad status) stand = IsStatus status
IsDueNext next.Ended stand = IsSettled stand

-- what was found next of a stream is its next answer
pub record IsDue (old : Stand) (found : Next) (new : Stand) : Type 0 where
  pub steps : Steps old found new
  pub answers : AnswersOn old found new
  pub due : IsDueNext found new

-- the next answer of a stream is found, and less of it is left
pub record IsAnswerNext (old : Stand) (answer : Answer) (new : Stand) : Type 0 where
  pub answers : (bytes : List ℕ) (before : List Answer) → IsAnswered bytes before old
      → IsAnswered bytes (before ++ answer ∷ []) new
  pub there : IsAskThere (ask_of answer)
  pub less : left_of new < left_of old

-- nothing is due to a stream, whose answers stay
pub record IsNoneNext (old new : Stand) : Type 0 where
  pub answers : (bytes : List ℕ) (before : List Answer) → IsAnswered bytes before old
      → IsAnswered bytes before new
  pub settled : IsSettled new

-- the next ask of a stream, if one is due
abbrev pub IsNextAsk : Stand → Option ClientAsk → Stand → Type 0
IsNextAsk old None new = IsNoneNext old new
IsNextAsk old (Some ask) new = (answer : Answer) × (ask ≡ ask_of answer)
    × IsAnswerNext old answer new

-- A piece of a client's stream came, and what it made whole was found, one after the other: these
-- asks were added to the steps.
pub record Hears (client : ℕ) (piece : List ℕ) (old new : Stand) (before after : List Step)
    : Type 0 where
  pub answers : List Answer
  pub fed : (bytes : List ℕ) (so_far : List Answer) → IsAnswered bytes so_far old
      → IsAnswered (bytes ++ piece) (so_far ++ answers) new
  pub there : AllByRecursion (λ answer. IsAskThere (ask_of answer)) answers
  pub steps : after ≡ before ++ map (λ answer. Ask client (ask_of answer)) answers

-- ---- records

-- where a client's stream stands
abbrev pub stand_in : List Stand → ℕ → Stand
stand_in stands client = slice_index_or stands client ended

-- by these records each client's stream is answered, and nothing is due
abbrev pub AreAnswered : List Turn → List Stand → Type 0
AreAnswered turns stands =
    (client : ℕ) → client < CLIENTS
    → IsAnswered (bytes_of client turns) (answers_of client turns) (stand_in stands client)
    × IsSettled (stand_in stands client)

-- these are the steps of records, by answers that are those of the streams, which stand here
pub record IsResolved (items : List Item) (stands : List Stand) (steps : List Step) : Type 0 where
  pub turns : List Turn
  pub items_are : map (λ t. t.item) turns ≡ items
  pub streams : AreStreams turns
  pub answered : AreAnswered turns stands
  pub steps_are : steps ≡ steps_of turns
  pub there : AllByRecursion IsStepThere steps
