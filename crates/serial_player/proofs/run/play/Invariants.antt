use Rattle.std.proofs.Common.{take}
use Rattle.serial_player.specs.Run.{IsRunOf}
use Rattle.serial_player.specs.Serial.{play_all}
use Rattle.serial_player.proofs.run.play.Given as goal

abbrev pub invariant-loop-step : goal.invariant-loop-step
invariant-loop-step l = IsRunOf l.setup (play_all l.setup (take l.step-index l.steps)) l.run
