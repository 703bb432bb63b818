use Rattle.std.proofs.Common.{[]}
use Rattle.serial_player.specs.Resolved.{Hears, left_of}
use Rattle.serial_player.proofs.resolving.take_asks.Given as goal

abbrev pub invariant-loop-ask : goal.invariant-loop-ask
invariant-loop-ask l = Hears l.client [] l.fn.stream l.stream l.fn.steps l.steps

abbrev pub decreases-loop-ask : goal.decreases-loop-ask
decreases-loop-ask l = left_of l.stream
