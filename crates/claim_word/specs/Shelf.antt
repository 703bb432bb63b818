-- What a shelf of entries keeps. (This project's own.)
use Rattle.std.specs.Prelude.{◌≡◌, ℕ, ◌+◌, ◌≤◌, List, length}
use Rattle.std.specs.List.{All}
use Rattle.io_caps.specs.declared.limits.TheConstants.{PLACES, MOST_CHANNELS}
use Rattle.map_entry.specs.declared.cell.Cell.{Cell}
use Rattle.map_entry.specs.declared.entry.Entry.{Entry}

-- there is room for as many entries as a table takes, and a spare row of the most channels for each
-- that may come
pub record IsShelf (entries : List Entry) (room : ℕ) (spare : List (List Cell)) : Type 0 where
  pub all : length entries + length spare ≡ PLACES
  pub room_is : PLACES ≤ room
  pub wide : All (λ row. length row ≡ MOST_CHANNELS) spare
