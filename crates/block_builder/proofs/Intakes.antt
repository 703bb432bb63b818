-- The numbers of a device's input are within their limits.
use Rattle.std.proofs.Common.{◌≡◌, ℕ, ◌*◌, ◌<◌, ◌≤◌, zero, suc, List, [], ◌∷◌, Some, arith, subst}
use Rattle.std.specs.Prelude.{All, slice_get, ◌^◌}
use Rattle.std.proofs.Math.Nat.{mul-le-mul}
use Rattle.io_caps.specs.declared.device.DeviceParts.{DeviceParts}
use Rattle.io_caps.specs.declared.port.Input.{Input}
use Rattle.io_caps.specs.declared.rate.Rate.{Rate}
use Rattle.io_caps.specs.Device.{IsDevice}
use Rattle.io_caps.specs.Port.{AreChannels}
use Rattle.io_caps.specs.Rate.{IsRate}
use Rattle.io_caps.specs.declared.limits.TheConstants.{SESSION_TICKS}
use Rattle.block_builder.specs.Blocks.{intake_for}
use Rattle.block_builder.specs.Window.{IsIntake}

-- a device's last tick is far below the end of the machine's numbers
base_small : (last frames hz seconds : ℕ) → last * frames < hz * seconds → 1 ≤ frames → hz < 2 ^ 24
    → seconds ≤ 2 ^ 40 → last < 2 ^ 64
base_small last frames hz seconds lt some few end =
    let a : last * 1 ≤ last * frames = mul-le-mul (omega arith) some in
    let h : hz ≤ 2 ^ 24 = omega (arith, few) in
    let b : hz * seconds ≤ 2 ^ 24 * 2 ^ 40 = mul-le-mul h end in
    omega (arith, a, b, lt)

some_same : {X : Type 0} (x y : X) → Some x ≡ Some y → x ≡ y
some_same x y e = cc

all_at : {X : Type 0} (P : X → Type 0) (xs : List X) (k : ℕ) (x : X) → All P xs
    → slice_get xs k ≡ Some x → P x
all_at P [] k x h e = absurd cc
all_at P (y ∷ ys) zero x h e = subst P (some_same y x e) (h 0 y (omega arith))
all_at P (y ∷ ys) (suc k) x h e = all_at P ys k x (λ j d lt. h (suc j) d (omega (arith, lt))) e

rate_few : (r : Rate) → IsRate r → r.hz < 2 ^ 24
rate_few r h = let hz = h.0 in grind (arith, hz)

pub intake_fits : (d : DeviceParts) (i : Input) (input ticks : ℕ) → IsDevice d
    → slice_get d.inputs input ≡ Some i → ticks ≤ SESSION_TICKS → IsIntake (intake_for d i ticks)
intake_fits d i input ticks valid there few =
    let labels = all_at (λ (j : Input). AreChannels j.labels) d.inputs input i valid.streams.inputs
    there in
    let small = base_small _ d.rate.frames d.rate.hz _ valid.bounds.base valid.bounds.rate.1
    (rate_few d.rate valid.bounds.rate) (omega arith) in
    record {
      channels = labels;
      frames = (valid.bounds.rate.1, valid.bounds.rate.2);
      hold = valid.bounds.hold;
      ticks = few;
      last = omega (arith, small);
    }
