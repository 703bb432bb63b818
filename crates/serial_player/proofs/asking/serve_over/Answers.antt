use Rattle.serial_player.proofs.asking.serve_over.Goals as goal

pub returns-in-Ok-clause-served : goal.returns-in-Ok-clause-served
returns-in-Ok-clause-served c = rw (← c.setup.view_is) c.in-Ok.ensures.served
