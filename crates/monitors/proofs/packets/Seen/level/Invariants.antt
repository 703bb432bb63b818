use Rattle.std.proofs.Common.{◌≡◌, map, take}
use Rattle.std.specs.Prelude.{unsigned_abs}
use Rattle.monitors.specs.Packets.{greatest}
use Rattle.monitors.proofs.packets.Seen.level.Given as goal

abbrev pub invariant-loop-sample : goal.invariant-loop-sample
invariant-loop-sample l = l.level ≡ greatest (map unsigned_abs (take l.sample-index l.self.samples))
