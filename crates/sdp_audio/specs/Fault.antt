-- What a description is refused for. (This project's own: RFC 8866 leaves it to the reader.)
use Rattle.std.specs.Prelude.{◌≡◌, ℕ, ◌+◌, ◌<◌, ◌⊎◌, Bool, true, false, not, ◌&&◌, ◌==◌}
use Rattle.std.specs.Prelude.{if◌then◌else◌, List, length, take, filter, codes, slice_index_or, []}
use Rattle.std.specs.Prelude.{Option, Some, None, is_some, Result, Ok, Err}
use Rattle.std.specs.List.{list_all, last_or}
use Rattle.std.specs.Str.{bytes_eq}
use Rattle.std.specs.Str.Lines.{lines}
use Rattle.exact_text.specs.Readings.{◌>>=◌}
use Rattle.io_caps.specs.declared.memory.Or.{Or}
use Rattle.io_caps.specs.declared.memory.Or.TheVariants.{Fault, NoMemory}
use Rattle.sdp_audio.specs.Line.{is_typed}
use Rattle.sdp_audio.specs.Media.{is_media, is_bad_media, line_audio, is_bad_mapping}
use Rattle.sdp_audio.specs.declared.fault.SdpFault.{SdpFault}
use Rattle.sdp_audio.specs.declared.fault.SdpFault.TheVariants.{Start, Line, Media, Map}

-- the line is empty: it is counted, and says nothing
abbrev pub is_empty_line : List ℕ → Bool
is_empty_line line = length line == 0

-- the `m=` line of the section to which a line below these belongs
abbrev pub media_above : List (List ℕ) → Option (List ℕ)
media_above above = last_or None (filter is_media above)

-- a line below these belongs to a section of audio over RTP
abbrev pub is_in_audio : List (List ℕ) → Bool
is_in_audio above = is_some (media_above above >>= line_audio)

-- The fault of a line, the first of the cases that applies: by whether the lines above are all
-- empty, whether it belongs to a section of audio over RTP, and its number.
abbrev pub line_fault : Bool → Bool → ℕ → List ℕ → Option SdpFault
line_fault first in_audio number line =
    if is_empty_line line then None
    else if first && not (bytes_eq line (codes "v=0")) then Some Start
    else if not (is_typed line) then Some (Line number)
    else if is_bad_media line then Some (Media number)
    else if in_audio && is_bad_mapping line then Some (Map number)
    else None

-- all of the lines are empty
abbrev pub is_blank : List (List ℕ) → Bool
is_blank all = list_all is_empty_line all

-- the fault of the line at a place, counted from 0
abbrev pub fault_at : List (List ℕ) → ℕ → Option SdpFault
fault_at all place =
    line_fault (is_blank (take place all)) (is_in_audio (take place all)) (place + 1)
    (slice_index_or all place [])

-- the fault is that of the first line that has one
pub record IsFirstFault (all : List (List ℕ)) (fault : SdpFault) : Type 0 where
  pub place : ℕ
  pub within : place < length all
  pub bad : fault_at all place ≡ Some fault
  pub before : (k : ℕ) → k < place → fault_at all k ≡ None

-- the fault of a text: that of its first bad line, or `Start` where all lines are empty
abbrev pub IsSdpFault : List ℕ → SdpFault → Type 0
IsSdpFault text fault =
    IsFirstFault (lines text) fault ⊎ ((is_blank (lines text) ≡ true) × (fault ≡ Start))

-- no line has a fault, and not all are empty
pub record HasNoFault (text : List ℕ) : Type 0 where
  pub good : (k : ℕ) → k < length (lines text) → fault_at (lines text) k ≡ None
  pub begun : is_blank (lines text) ≡ false

-- where it is a fault, and not that memory ran out, the fault has the property
abbrev pub IfFault : {F : Type 0} → Or F → (F → Type 0) → Type 0
IfFault (Fault fault) P = P fault
IfFault NoMemory P = Unit {0}

-- what was returned is this fault, unless memory ran out
abbrev pub IsRefused : {T : Type 0} → Result T (Or SdpFault) → SdpFault → Type 0
IsRefused (Ok x) fault = ⊥
IsRefused (Err e) fault = IfFault e (λ f. f ≡ fault)
