-- The form of a moment is lawful and short, in each format.
use Rattle.std.proofs.Common.{◌≡◌, ℕ, ◌<◌, ◌^◌, List, refl, sym, arith}
use Rattle.exact_text.proofs.FieldLaws.{wide2, wide8}
use Rattle.exact_text.proofs.FormLaws.{Lawful, constant_tagged, number_law, then_law}
use Rattle.exact_text.proofs.FormLengths.{IsShort, constant_short, number_short, then_short}
use Rattle.capture_file.specs.declared.format.Format.{Format}
use Rattle.capture_file.specs.declared.format.Format.TheVariants.{One, Two}
use Rattle.capture_file.specs.Formats.{HoldsOffset, moment, offset_field}

offset_law : {Follows : List ℕ → Type 0} (format : Format) → Lawful Follows (offset_field format)
unfolding offset_field
offset_law One = (constant_tagged (λ n. n) 0 0 refl).lawful
offset_law Two = number_law 2 wide2

pub moment_law : {Follows : List ℕ → Type 0} (format : Format) → Lawful Follows (moment format)
unfolding moment
moment_law format = then_law (number_law 8 wide8) (offset_law format)

offset_fits : (format : Format) (offset : ℕ) → HoldsOffset format offset
    → (offset_field format).Fits offset
unfolding offset_field
offset_fits One offset holds = sym holds
offset_fits Two offset holds = omega (arith, holds)

offset_holds : (format : Format) (offset : ℕ) → (offset_field format).Fits offset
    → HoldsOffset format offset
unfolding offset_field
offset_holds One offset fits = sym fits
offset_holds Two offset fits = omega (arith, fits)

-- a moment fits, where the number of its tick does and the format can hold its frame
pub moment_fits : (format : Format) (tick offset : ℕ) → tick < 256 ^ 8 → HoldsOffset format offset
    → (moment format).Fits (tick, offset)
unfolding moment
moment_fits format tick offset fits holds = (fits, offset_fits format offset holds)

-- the format can hold the frame of a moment that fits
pub moment_holds : (format : Format) (tick offset : ℕ) → (moment format).Fits (tick, offset)
    → HoldsOffset format offset
unfolding moment
moment_holds format tick offset fits = offset_holds format offset fits.1

offset_short : (format : Format) → IsShort (offset_field format) 2
unfolding offset_field
offset_short One = constant_short 0
offset_short Two = number_short 2

pub moment_short : (format : Format) → IsShort (moment format) 10
unfolding moment
moment_short format = then_short (number_short 8) (offset_short format)
