use Rattle.std.proofs.Common.{◌∙◌, ap, subst, List}
use Rattle.map_entry.specs.Setup.{IsSetup, SetupParts}
use Rattle.interleavings.specs.declared.events.AnsweredEvent.{AnsweredEvent}
use Rattle.interleavings.specs.Core.{core_parts}
use Rattle.interleavings.specs.Events.{run_of}
use Rattle.interleavings.proofs.Ranging.{both}
use Rattle.interleavings.proofs.Stepping.{run_of_none}
use Rattle.interleavings.proofs.machine.Core.new.Goals as goal

pub returns-clause-setup : goal.returns-clause-setup
returns-clause-setup c = subst IsSetup c.in_ok-copy.ensures c.in_ok-facts.ensures.setup

pub returns-clause-value : goal.returns-clause-value
returns-clause-value c =
    both (λ (s : SetupParts) (t : List AnsweredEvent). core_parts s c.args.ticks c.args.workers t)
    c.in_ok-copy.ensures
    (ap (run_of c.in_ok-copy.field-0 c.args.ticks) c.new.ensures
    ∙ run_of_none c.in_ok-copy.field-0 c.args.ticks)
