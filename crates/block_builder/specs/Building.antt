-- What a builder is seen as: what rules it, what came, and how many ticks were handed out. (This
-- project's own.)
use Rattle.std.specs.Prelude.{◌≡◌, ℕ, ◌+◌, ◌≤◌, List, ◌++◌, ◌∷◌, [], All, IfSome, Option, Some, map}
use Rattle.std.specs.Prelude.{ℤ}
use Rattle.std.specs.List.{range_with_len}
use Rattle.io_caps.specs.declared.device.DeviceParts.{DeviceParts}
use Rattle.block_builder.specs.declared.arrival.Arrival.{Arrival}
use Rattle.block_builder.specs.declared.intake.Intake.{Intake}
use Rattle.block_builder.specs.declared.slot.Slot.{Slot}
use Rattle.block_builder.specs.declared.taken.Taken.{Taken}
use Rattle.block_builder.specs.Blocks.{Piece, IsBlock, intake_of, block_at, block_of, closed_by}
use Rattle.block_builder.specs.Blocks.{closed_of, held_at, pieces_of}
use Rattle.block_builder.specs.Taken.{IsTaken}
use Rattle.block_builder.specs.Window.{IsIntake, IsSlot, IsWindow}

-- a builder, as contracts see it: what rules it, what came, and how many ticks were handed out
pub record Building : Type 0 where
  pub intake : Intake
  pub arrivals : List Arrival
  pub given : ℕ

-- no closed tick is left to be handed out
abbrev pub IsDrained : Building → Type 0
IsDrained b = closed_of b.intake b.arrivals ≤ b.given

-- a builder to which something more came
abbrev pub with_arrival : Building → Arrival → Building
with_arrival b a = record b { arrivals = b.arrivals ++ a ∷ [] }

-- a builder of which one tick more was handed out
abbrev pub handed_on : Building → Building
handed_on b = record b { given = b.given + 1 }

-- what the fields of a builder keep
pub record IsBuilder (n : Intake) (arrivals : List Arrival) (slots : List Slot)
    (given closed : ℕ) : Type 0 where
  pub numbers : IsIntake n
  pub closed_is : closed ≡ closed_of n arrivals
  pub handed : given ≤ closed
  pub slots_fit : All (IsSlot n) slots
  pub window : IsWindow n (held_at n (pieces_of n arrivals)) given slots

-- the blocks of a given number of ticks from the first
abbrev pub blocks_upto : Intake → List Arrival → ℕ → List (Option (List ℤ))
blocks_upto n arrivals upto = map (λ k. block_at n arrivals (n.base + k)) (range_with_len 0 upto)

-- the blocks of all ticks of a session, for an input of a device
abbrev pub session_blocks : DeviceParts → ℕ → ℕ → List Arrival → List (Option (List ℤ))
session_blocks d input ticks arrivals =
    map (λ k. block_of d input ticks arrivals (d.base + k)) (range_with_len 0 ticks)

-- each block that is there has the input's shape
abbrev pub HaveShape : Intake → List (Option (List ℤ)) → Type 0
HaveShape n blocks = All (λ b. IfSome b (IsBlock n)) blocks

-- they do by what rules an input of a device, if it is there
abbrev pub FitInput : DeviceParts → ℕ → ℕ → List (Option (List ℤ)) → Type 0
FitInput d input ticks blocks = (n : Intake) → intake_of d input ticks ≡ Some n → HaveShape n blocks

-- ---- one packet more, while no closed tick is left: as many ticks were handed out as the pieces
-- before it close

-- new slots show what the pieces before and its own leave held, where the old ones show what those
-- before it do
abbrev pub ShowsMore : Intake → ℕ → List Piece → List Slot → List Slot → Type 0
ShowsMore n given more old new =
    (before : List Piece) → closed_by n before ≡ given
    → IsWindow n (held_at n before) given old → IsWindow n (held_at n (before ++ more)) given new

-- the answer is right for all pieces before it that the slots show
abbrev pub IsRight : Intake → ℕ → List Slot → (List Piece → Type 0) → Type 0
IsRight n given slots P =
    (before : List Piece) → closed_by n before ≡ given → IsWindow n (held_at n before) given slots
    → P before

-- the answer for a packet, after what came to a builder
abbrev pub IsTakenBy : Building → List ℕ → Taken → Type 0
IsTakenBy b bytes taken = IsTaken b.intake (pieces_of b.intake b.arrivals) bytes taken
