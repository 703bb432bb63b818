-- The first of two places.
use Rattle.std.proofs.Common.{◌≡◌, ℕ, Option, Some, None, refl}
use Rattle.io_caps.specs.Fault.{first_slot, IsFirstSlot}
use Rattle.io_caps.specs.declared.fault.Slot.{Slot}
use Rattle.io_caps.specs.declared.fault.Slot.TheVariants.{Source, Target}

pub IsFirstSlot-from : (IsSource IsTarget : Option ℕ → Type 0) (source target : Option ℕ) (slot : Slot) → first_slot source target ≡ Some slot
    → IsSource source → IsTarget target → IsFirstSlot IsSource IsTarget slot
IsFirstSlot-from IsSource IsTarget (Some k) target (Source s) is source_is target_is = let same : k ≡ s = cc in rw (← same) source_is
IsFirstSlot-from IsSource IsTarget (Some k) target (Target t) is source_is target_is = absurd cc
IsFirstSlot-from IsSource IsTarget None (Some k) (Source s) is source_is target_is = absurd cc
IsFirstSlot-from IsSource IsTarget None (Some k) (Target t) is source_is target_is = let same : k ≡ t = cc in (source_is, rw (← same) target_is)
IsFirstSlot-from IsSource IsTarget None None slot is source_is target_is = absurd cc

-- no slot, no place
pub no_slot : (source target : Option ℕ) → ((slot : Slot) → first_slot source target ≡ Some slot → ⊥) → (source ≡ None) × (target ≡ None)
no_slot (Some k) target fails = absurd (fails (Source k) refl)
no_slot None (Some k) fails = absurd (fails (Target k) refl)
no_slot None None fails = (refl, refl)
