use Rattle.std.proofs.Common.{ℕ, ◌≤◌, ◌<◌}
use Rattle.std.specs.Prelude.{All}
use Rattle.block_builder.specs.Window.{HasTick, IsSlot, ShowsAlike}
use Rattle.block_builder.proofs.window.add_blanks.Given as goal

abbrev pub invariant-loop-tick : goal.invariant-loop-tick
invariant-loop-tick l =
    record {
      slots : All (IsSlot l.intake) l.slots.items;
      window : (first : ℕ) → first ≤ l.from → l.to ≤ l.intake.ticks
          → ShowsAlike l.intake first l.fn.slots.items l.slots.items;
      all : (tick : ℕ) → l.from ≤ tick → tick < l.tick → HasTick tick l.slots.items;
    }
