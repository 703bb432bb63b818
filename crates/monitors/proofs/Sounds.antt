-- The first sound, packet by packet.
use Rattle.std.proofs.Common.{◌≡◌, ℕ, Bool, true, false, List, ◌∷◌, Some, None, refl, ap}
use Rattle.monitors.specs.declared.packets.Seen.{Seen}
use Rattle.monitors.specs.Packets.{is_silent}
use Rattle.monitors.specs.Meters.{first_sound}

-- a packet that is not silent is the first sound
pub first_sound-here : (seen : Seen) (more : List Seen) → is_silent seen ≡ false
    → first_sound (seen ∷ more) ≡ Some seen.claim
first_sound-here seen more loud = rw loud refl

-- a silent one is none
pub first_sound-later : (seen : Seen) (more : List Seen) → is_silent seen ≡ true
    → first_sound (seen ∷ more) ≡ first_sound more
first_sound-later seen more silent = rw silent refl
