-- The two formats of captures and results, and all in which they differ. (This project's own.)
use Rattle.std.specs.Prelude.{◌≡◌, ℕ, ◌<◌, ◌^◌, List, [], ◌∷◌, codes}
use Rattle.map_entry.specs.declared.grain.Grain.{Grain}
use Rattle.map_entry.specs.declared.grain.Grain.TheVariants.{Tick, Frame}
use Rattle.exact_text.specs.Forms.{Form, number, ◌▸◌, constant}
use Rattle.exact_text.specs.Spellings.{record_text}
use Rattle.capture_file.specs.declared.fault.CaptureKind.{CaptureKind}
use Rattle.capture_file.specs.declared.fault.CaptureKind.TheVariants.{Tag, Order}
use Rattle.capture_file.specs.declared.format.Format.{Format}
use Rattle.capture_file.specs.declared.format.Format.TheVariants.{One, Two}
use Rattle.capture_file.specs.Tags.{grain_tag, tick_grain, frame_grain}

-- the first bytes of a capture
abbrev pub capture_magic : Format → List ℕ
capture_magic One = codes "CHMCAP1\n"
capture_magic Two = codes "CHMCAP2\n"

-- the first bytes of a result
abbrev pub result_magic : Format → List ℕ
result_magic One = codes "CHMRES1\n"
result_magic Two = codes "CHMRES2\n"

-- ---- grains

-- a capture of a format can say this grain: one of format 1 says that changes count from ticks
abbrev pub AllowsGrain : Format → Grain → Type 0
AllowsGrain One grain = grain ≡ Tick
AllowsGrain Two grain = Unit {0}

-- the body of the record of a grain
abbrev pub grain_body : Grain → List ℕ
grain_body Tick = tick_grain ∷ []
grain_body Frame = frame_grain ∷ []

-- the record of a grain
abbrev pub grain_text : Grain → List ℕ
grain_text grain = record_text grain_tag (grain_body grain)

-- what is wrong with the record of a grain where it may not stand: in format 1 there is none
abbrev pub misplaced_grain : Format → CaptureKind
misplaced_grain One = Tag
misplaced_grain Two = Order

-- ---- moments

-- the frame of a tick from which something counts: format 1 has no field for it, and it is the
-- first one
unfoldable pub offset_field : Format → Form ℕ
offset_field One = constant 0
offset_field Two = number 2

-- a tick, and the frame of it from which something counts
unfoldable pub moment : Format → Form (ℕ × ℕ)
moment format = number 8 ▸ offset_field format

-- a format can hold a frame from which something counts
abbrev pub HoldsOffset : Format → ℕ → Type 0
HoldsOffset One offset = offset ≡ 0
HoldsOffset Two offset = offset < 2 ^ 16
