use Rattle.std.proofs.Common.{subst, ◌∙◌}
use Rattle.map_entry.specs.Setup.{IsSetup}
use Rattle.serial_player.proofs.Running.{new_is}
use Rattle.serial_player.proofs.run.Run.new.Goals as goal

pub returns : goal.returns
returns c =
    new_is c.args.setup.now _
    (subst IsSetup (c.drop.view_is ∙ c.in_ok-copy.ensures) c.drop.invariant) c.in_ok-copy.ensures
    c.in_ok-new-2.ensures c.new-3.ensures c.in_ok-new-3.ensures
