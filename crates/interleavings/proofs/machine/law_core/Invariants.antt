use Rattle.std.proofs.Common.{◌≡◌, take}
use Rattle.map_entry.specs.Setup.{IsSetup}
use Rattle.interleavings.specs.Core.{core_parts}
use Rattle.interleavings.specs.Events.{run_of}
use Rattle.interleavings.proofs.machine.law_core.Given as goal

abbrev pub invariant-loop-event : goal.invariant-loop-event
invariant-loop-event l = record {
  setup : IsSetup l.setup;
  core : l.core ≡ core_parts l.setup l.ticks l.workers
      (run_of l.setup l.ticks (take l.event-index l.events));
}
