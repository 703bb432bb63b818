-- What stays of a pass that is lent to the packet writer. (This project's own.)
use Rattle.std.specs.Prelude.{ℕ, ◌≡◌, Bool, List}
use Rattle.input_cells.specs.Faces.{InputFace, OnlyHears, SeatFace}

-- a lent pass: who lent it, its table, the tick, the flags of the inputs whose blocks it saw, and
-- what it knows
pub record LentFace : Type 0 where
  pub lender : ℕ
  pub table : List InputFace
  pub tick : ℕ
  pub flags : List Bool
  pub pass : List SeatFace

-- the pass that this lender lent, with its table, the tick, the flags and what it knows
abbrev pub lent_face : ℕ → List InputFace → ℕ → List Bool → List SeatFace → LentFace
lent_face lender table tick flags pass =
    record { lender = lender; table = table; tick = tick; flags = flags; pass = pass }

-- It is the same pass at the same table, tick and flags. From whatever it had only read samples
-- before, it has only read samples still.
pub record StaysLent (before after : LentFace) : Type 0 where
  pub lender : after.lender ≡ before.lender
  pub table : after.table ≡ before.table
  pub tick : after.tick ≡ before.tick
  pub flags : after.flags ≡ before.flags
  pub hears : (first : List SeatFace) → OnlyHears first before.pass → OnlyHears first after.pass
