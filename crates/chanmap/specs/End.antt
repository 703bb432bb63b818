-- How a run ends otherwise than well, and how that is told. (This project's own.)
use Rattle.std.specs.Prelude.{◌≡◌, ℕ, List, ◌++◌, codes, decimal, Option}
use Rattle.std.specs.Io.KnownBytes.{Appends}
use Rattle.chan_io.specs.Streams.{TakesPrefix}
use Rattle.capture_file.specs.declared.fault.CaptureKind.{CaptureKind}
use Rattle.capture_file.specs.declared.fault.CaptureKind.TheVariants.{Magic, Cut, Tag, Order}
use Rattle.capture_file.specs.declared.fault.CaptureKind.TheVariants.{Device, Body, Work, Trailing}
use Rattle.sdp_audio.specs.declared.fault.SdpFault.TheVariants.{Start, Line, Media, Map}
use Rattle.sdp_audio.specs.declared.fault.MakeFault.TheVariants.{Empty, Rates}
use Rattle.sdp_audio.specs.declared.fault.MakeFault.TheVariants.{Device as NoDevice}
use Rattle.chanmap.specs.declared.end.SdpRefusal.{SdpRefusal}
use Rattle.chanmap.specs.declared.end.SdpRefusal.TheVariants.{Text, Streams}
use Rattle.chanmap.specs.declared.end.End.{End}
use Rattle.chanmap.specs.declared.end.End.TheVariants.{Usage, ReadFault, WriteFault, Refused}
use Rattle.chanmap.specs.declared.end.End.TheVariants.{TooLong, SdpRefused, NoMemory}

-- the exit status of an end
abbrev pub status_of : End → ℕ
status_of Usage = 2
status_of ReadFault = 3
status_of WriteFault = 4
status_of (Refused fault) = 5
status_of TooLong = 7
status_of (SdpRefused refusal) = 10
status_of NoMemory = 12

-- the word of a kind of fault, at the end of its line
abbrev pub kind_text : CaptureKind → List ℕ
kind_text Magic = codes "magic\n"
kind_text Cut = codes "cut\n"
kind_text Tag = codes "tag\n"
kind_text Order = codes "order\n"
kind_text Device = codes "device\n"
kind_text Body = codes "body\n"
kind_text Work = codes "work\n"
kind_text Trailing = codes "trailing\n"

-- a line that ends with a number
unfoldable pub numbered_line : List ℕ → ℕ → List ℕ
numbered_line front number = front ++ (decimal number ++ codes "\n")

-- the line that tells why no capture is made of a session description: of a fault of its text the
-- kind and the line, and otherwise what its streams are
abbrev pub sdp_line : SdpRefusal → List ℕ
sdp_line (Text Start) = codes "sdp refused: start\n"
sdp_line (Text (Line number)) = numbered_line (codes "sdp refused: line ") number
sdp_line (Text (Media number)) = numbered_line (codes "sdp refused: media ") number
sdp_line (Text (Map number)) = numbered_line (codes "sdp refused: map ") number
sdp_line (Streams Empty) = codes "sdp refused: empty\n"
sdp_line (Streams Rates) = codes "sdp refused: rates\n"
sdp_line (Streams (NoDevice fault)) = codes "sdp refused: device\n"

-- the line that tells an end: a refusal by its place and its kind
unfoldable pub line_of : End → List ℕ
line_of Usage = codes "usage: chanmap serial | sdp | from-sdp\n"
line_of ReadFault = codes "read fault\n"
line_of WriteFault = codes "write fault\n"
line_of (Refused fault) =
    codes "refused at " ++ (decimal fault.at ++ (codes ": " ++ kind_text fault.kind))
line_of TooLong = codes "too long\n"
line_of (SdpRefused refusal) = sdp_line refusal
line_of NoMemory = codes "no memory\n"

-- A run ended so: this is its status, and the sink of the lines took its line, all of it unless the
-- sink failed.
pub record IsToldEnd (status : ℕ) (old new : Option (List ℕ)) (Failed : Type 0)
    (end : End) : Type 0 where
  pub status_is : status ≡ status_of end
  pub line : TakesPrefix old new (line_of end)
  pub whole : (Failed → ⊥) → Appends old new (line_of end)
