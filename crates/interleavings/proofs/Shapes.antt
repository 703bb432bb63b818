-- Setups with outputs, whose ticks have few frames.
use Rattle.std.proofs.Common.{◌^◌, ◌≤◌, arith}
use Rattle.map_entry.specs.Setup.{IsSetup, SetupParts}
use Rattle.plain_book.proofs.Grains.{few_frames}
use Rattle.plain_book.proofs.Keeping.{has_outputs}
use Rattle.plain_book.proofs.Waiting.{HasOutputs}

abbrev pub HasShape : SetupParts → Type 0
HasShape s = HasOutputs s × (s.device.rate.frames ≤ 2 ^ 16)

pub has_shape : (s : SetupParts) → IsSetup s → HasShape s
has_shape s is = (has_outputs s is, omega (arith, few_frames s is))
