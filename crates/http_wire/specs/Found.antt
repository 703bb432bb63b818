-- What the parts of the code find at the front of the bytes that are held. (This project's own.)
use Rattle.std.specs.Prelude.{◌≡◌, ℕ, ◌+◌, ◌≤◌, List, length, take, drop, true, Option, Some, None}
use Rattle.httparse.specs.Grammar.{RequestHead}
use Rattle.httparse.specs.Spans.{span_bytes, IsWithin, IsRequestAt}
use Rattle.httparse.specs.declared.spans.HeaderSpan.{HeaderSpan}
use Rattle.httparse.specs.declared.spans.RequestSpans.{RequestSpans}
use Rattle.http_wire.specs.Head.{IsFit, IsAwaited, has_line}
use Rattle.http_wire.specs.Scan.{HasNoLine}
use Rattle.http_wire.specs.Line.{HasPart}
use Rattle.http_wire.specs.Request.{method_in, path_in, framing_in, closes_in}
use Rattle.http_wire.specs.Stream.{BeginsWith, IsShort, IsRefused}
use Rattle.http_wire.specs.declared.fields.Framing.TheVariants.{Body}
use Rattle.http_wire.specs.declared.head.Head.{Head}
use Rattle.http_wire.specs.declared.known.HeadScan.{HeadScan}
use Rattle.http_wire.specs.declared.known.HeadScan.TheVariants.{NoLine, Lines, OpenLine, Whole}
use Rattle.http_wire.specs.declared.head.Front.{Front}
use Rattle.http_wire.specs.declared.head.Front.TheVariants.{Awaited, Refused, Found}
use Rattle.http_wire.specs.declared.request.HttpRequest.{HttpRequest}

-- what holds of each head that stands in the bytes with these parts
abbrev pub EachHeadAt : List ℕ → List HeaderSpan → RequestSpans → (RequestHead → Type 0) → Type 0
EachHeadAt bytes spans parts P = (h : RequestHead) → IsRequestAt bytes spans parts h → P h

-- what is remembered of a head: its method, whether it closes, and how long its body is
pub record IsOfHead (h : RequestHead) (head : Head) : Type 0 where
  pub method : head.method ≡ method_in h.method
  pub closes : head.closes ≡ closes_in h
  pub frames : framing_in h ≡ Body head.body

-- its path stands there in the bytes of the head
pub record HasPath (bytes : List ℕ) (h : RequestHead) (head : Head) : Type 0 where
  pub within : IsWithin head.len head.path
  pub path : span_bytes bytes head.path ≡ path_in h.target

-- the bytes begin with this head
pub record BeginsWithHead (bytes : List ℕ) (h : RequestHead) (head : Head) : Type 0 where
  pub fit : IsFit bytes h (drop head.len bytes)
  pub within : head.len ≤ length bytes
  pub is : IsOfHead h head
  pub path : HasPath bytes h head

-- the bytes begin with a head of which this is remembered
abbrev pub HasHead : List ℕ → Head → Type 0
HasHead bytes head = (h : RequestHead) × BeginsWithHead bytes h head

-- what the bytes begin with
abbrev pub IsFront : List ℕ → Front → Type 0
IsFront bytes Awaited = IsAwaited bytes
IsFront bytes (Refused status) = IsRefused bytes status
IsFront bytes (Found head) = HasHead bytes head

-- what is known of the bytes, or of a front of them of a given length
abbrev pub IsKnown : List ℕ → HeadScan → Type 0
IsKnown bytes (NoLine seen begun) = HasNoLine bytes seen begun
IsKnown bytes Lines = has_line bytes ≡ true
IsKnown bytes (OpenLine seen part) = (seen ≤ length bytes) × HasPart (take seen bytes) part
IsKnown bytes (Whole head) = HasHead bytes head

-- the request of a head, once its body is whole
abbrev pub IsRequestOf : List ℕ → Head → Option HttpRequest → Type 0
IsRequestOf bytes head None = IsShort bytes
IsRequestOf bytes head (Some request) =
    BeginsWith bytes request (drop (head.len + head.body) bytes) × (request.closes ≡ head.closes)
    × (head.len + head.body ≤ length bytes)
