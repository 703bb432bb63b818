-- The outside of a run, by what it tells. (This project's own.)
use Rattle.std.specs.Prelude.{ℕ, List, Option}
use Rattle.chan_io.specs.Causes.{Rose}

-- What the outside tells at a moment: the bytes that the source has left, that the sink of the
-- result took, and that the sink of the lines took, each where it tells them; and how often a call
-- of each failed.
pub record World : Type 0 where
  pub left : Option (List ℕ)
  pub read_faults : ℕ
  pub taken : Option (List ℕ)
  pub write_faults : ℕ
  pub told : Option (List ℕ)
  pub line_faults : ℕ

-- the outside whose source, sink of the result and sink of the lines tell this
abbrev pub world_of : Option (List ℕ) → ℕ → Option (List ℕ) → ℕ → Option (List ℕ) → ℕ → World
world_of left read_faults taken write_faults told line_faults = record {
  left = left;
  read_faults = read_faults;
  taken = taken;
  write_faults = write_faults;
  told = told;
  line_faults = line_faults;
}

-- the source's count of faults rose
abbrev pub ReadFailed : World → World → Type 0
ReadFailed before after = Rose before.read_faults after.read_faults

-- the count of faults of the sink of the result rose
abbrev pub WriteFailed : World → World → Type 0
WriteFailed before after = Rose before.write_faults after.write_faults

-- the count of faults of the sink of the lines rose
abbrev pub LineFailed : World → World → Type 0
LineFailed before after = Rose before.line_faults after.line_faults
