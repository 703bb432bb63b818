use Rattle.serial_player.proofs.Hearing.{on_ok}
use Rattle.serial_player.proofs.Running.{ask_step, can_run}
use Rattle.serial_player.proofs.run.Run.step.Goals as goal

pub work-requires-clause-run : goal.work-requires-clause-run
work-requires-clause-run c = can_run c.args.self.now c.args.step.now c.requires

pub returns-in-Ask : goal.returns-in-Ask
returns-in-Ask c =
    on_ok c.answer.result _ _
    (ask_step c.args.self.now c.answer.new.self c.args.step.now _ _ c.in-Ask.is) c.answer.ensures
