-- Why a source was not read to its end. (This project's own.)
use Rattle.std.specs.Prelude.{List, ℕ, Option}
use Rattle.chan_io.specs.Streams.{BoundedRead, LongRead}
use Rattle.chanmap.specs.declared.input.TheConstants.{MOST_BYTES}
use Rattle.chanmap.specs.declared.end.End.{End}
use Rattle.chanmap.specs.declared.end.End.TheVariants.{Usage, ReadFault, WriteFault, Refused}
use Rattle.chanmap.specs.declared.end.End.TheVariants.{TooLong, SdpRefused, NoMemory}

-- the cause of an end that comes before all bytes of a source are in hand
abbrev pub IsUnread : Option (List ℕ) → Option (List ℕ) → Type 0 → End → Type 0
IsUnread old new Failed Usage = ⊥
IsUnread old new Failed ReadFault = Failed × BoundedRead old new MOST_BYTES
IsUnread old new Failed WriteFault = ⊥
IsUnread old new Failed (Refused fault) = ⊥
IsUnread old new Failed TooLong = LongRead old new MOST_BYTES
IsUnread old new Failed (SdpRefused refusal) = ⊥
IsUnread old new Failed NoMemory = BoundedRead old new MOST_BYTES
