use Rattle.std.proofs.Common.{◌≡◌, map}
use Rattle.std.specs.List.{range_with_len}
use Rattle.monitors.specs.Packets.{sample_in}
use Rattle.monitors.proofs.packets.read_samples.Given as goal

abbrev pub invariant-loop-place : goal.invariant-loop-place
invariant-loop-place l = l.samples.items ≡ map (sample_in l.width l.payload) (range_with_len 0 l.place)
