-- That what passes know only grows. (This project's own.)
use Rattle.std.specs.Prelude.{ℕ, ◌≡◌, ◌+◌, ◌<◌, ◌≤◌, List, map}
use Rattle.io_caps.specs.declared.device.DeviceParts.{DeviceParts}
use Rattle.input_rule.specs.Views.{HasMissed, HasSeen}
use Rattle.packet_writer.specs.Packet.{Blocks}
use Rattle.input_cells.specs.Agreement.{Agrees}
use Rattle.input_cells.specs.Faces.{AreOwnLooks, Grows, HasView, IsReadOf, InputFace, OnlyHears}
use Rattle.input_cells.specs.Faces.{SeatFace, heard_of, looks_of, unread}
use Rattle.input_cells.specs.Looking.{HasTickEach, IsUntouched}
use Rattle.input_cells.specs.Shapes.{IsTableOf}

-- what a pass knows goes on growing, and it is a pass of the same table
abbrev pub GrowsOn : Type 0
GrowsOn = (a b c : List SeatFace) → Grows a b → Grows b c → Grows a c

-- a pass that goes on stays one of its table
abbrev pub StaysOfTable : Type 0
StaysOfTable =
    (table : List InputFace) (before after : List SeatFace) → Grows before after
    → IsReadOf table before → IsReadOf table after

-- a block that was seen stays seen, and one that was missed after its tick was closed stays missed
abbrev pub KeepsSeen : Type 0
KeepsSeen =
    (before after : List SeatFace) → Grows before after → (input tick : ℕ)
    → HasView before input (λ v. HasSeen v tick) → HasView after input (λ v. HasSeen v tick)

-- what a pass missed at a closed tick stays missed as it goes on
abbrev pub KeepsMissed : Type 0
KeepsMissed =
    (before after : List SeatFace) → Grows before after → (input tick : ℕ)
    → HasView before input (λ v. HasMissed v tick) → HasView after input (λ v. HasMissed v tick)

-- to know more leaves fewer blocks that agree
abbrev pub AgreesBefore : Type 0
AgreesBefore =
    (d : DeviceParts) (blocks : Blocks) (before after : List SeatFace) → Grows before after
    → Agrees d (looks_of after) (heard_of after) blocks
    → Agrees d (looks_of before) (heard_of before) blocks

-- looks that are at their own inputs stay so
abbrev pub OwnLooksStay : Type 0
OwnLooksStay =
    (before after : List SeatFace) → Grows before after → AreOwnLooks before → AreOwnLooks after

-- and so are those of a new pass, which has none
abbrev pub UnreadHasOwn : Type 0
UnreadHasOwn = (table : List InputFace) → AreOwnLooks (map unread table)

-- a pass that only read samples knows more, and neither looked at anything nor loaded a closing
-- number
abbrev pub HearingGrows : Type 0
HearingGrows =
    (before after : List SeatFace) → OnlyHears before after
    → Grows before after × (looks_of after ≡ looks_of before)
    × ((input : ℕ) → IsUntouched before after input)

-- a table of a device has each of its ticks at each input
abbrev pub HasItsTicks : Type 0
HasItsTicks =
    (d : DeviceParts) (from ticks : ℕ) (table : List InputFace) → IsTableOf d from ticks table
    → (tick : ℕ) → from ≤ tick → tick < from + ticks → HasTickEach table tick
