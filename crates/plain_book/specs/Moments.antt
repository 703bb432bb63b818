-- Frames of ticks, as books keep them. (This project's own.)
use Rattle.std.specs.Prelude.{ℕ}
use Rattle.map_entry.specs.Tick.{frame_key}
use Rattle.plain_book.specs.declared.moments.Moment.{Moment}

-- a frame of a tick
abbrev pub moment : ℕ → ℕ → Moment
moment tick offset = record { tick = tick; offset = offset }

-- its key
abbrev pub moment_key : Moment → ℕ
moment_key m = frame_key m.tick m.offset
