use Rattle.std.proofs.Common.{◌≡◌, take}
use Rattle.serial_player.specs.Serial.{asks_in}
use Rattle.serial_player.proofs.asks.asks_in.Given as goal

abbrev pub invariant-loop-step : goal.invariant-loop-step
invariant-loop-step l = l.made ≡ asks_in l.client (take l.step-index l.steps)
