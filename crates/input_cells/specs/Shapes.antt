-- How the tables of a device's inputs lie. (This project's own.)
use Rattle.std.specs.Prelude.{ℕ, ◌≡◌, ◌+◌, ◌≤◌, List, ◌∷◌, length, map, replicate}
use Rattle.std.specs.List.{range_with_len}
use Rattle.io_caps.specs.declared.device.DeviceParts.{DeviceParts}
use Rattle.map_entry.specs.Row.{channels_of}
use Rattle.io_caps.specs.declared.limits.TheConstants.{LAP_TICKS, MOST_CHANNELS, MOST_FRAMES}
use Rattle.input_rule.specs.declared.view.Shape.{Shape}
use Rattle.input_rule.specs.Words.{words_len}
use Rattle.input_cells.specs.Faces.{InputFace}

-- the table of an input, and of the pace, which is no input and so has no channels
abbrev pub shape_of : DeviceParts → ℕ → ℕ → ℕ → Shape
shape_of d from ticks input =
    record {
      input = input;
      from = from;
      ticks = ticks;
      frames = d.rate.frames;
      channels = channels_of d.inputs input;
    }

-- of each input, and then of the pace
abbrev pub shapes_of : DeviceParts → ℕ → ℕ → List Shape
shapes_of d from ticks = map (shape_of d from ticks) (range_with_len 0 (length d.inputs + 1))

-- it is a table of the device, from a tick on and for a given number of ticks
abbrev pub IsTableOf : DeviceParts → ℕ → ℕ → List InputFace → Type 0
IsTableOf d from ticks table = map (λ t. t.shape) table ≡ shapes_of d from ticks

-- a table of one input within the limits
pub record IsSmall (shape : Shape) : Type 0 where
  pub ticks : shape.ticks ≤ LAP_TICKS
  pub frames : shape.frames ≤ MOST_FRAMES
  pub channels : shape.channels ≤ MOST_CHANNELS

-- the row begins with the words of a table to which nothing was fed: the first tick, and then zeros
pub record BeginsUnfed (shape : Shape) (row : List ℕ) : Type 0 where
  pub rest : ℕ
  pub row_is : row ≡ shape.from ∷ replicate rest 0
  pub long : words_len shape ≤ 1 + rest
