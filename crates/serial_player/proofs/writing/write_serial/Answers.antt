use Rattle.std.proofs.lemmas.Result.{IfErr-weaker, on_ok_weaker}
use Rattle.io_caps.specs.declared.memory.Or.{Or}
use Rattle.io_caps.specs.declared.memory.Or.TheVariants.{Fault, NoMemory}
use Rattle.capture_file.specs.Walk.{IfFault}
use Rattle.chan_io.specs.declared.streams.Failed.{Failed}
use Rattle.serial_player.specs.Written.{IsWrittenInPart}
use Rattle.serial_player.proofs.History.{capture_same}
use Rattle.serial_player.proofs.ResultTexts.{cut_short_same, written_same}
use Rattle.serial_player.proofs.writing.write_serial.Goals as goal

pub write_items-requires-clause-capture : goal.write_items-requires-clause-capture
write_items-requires-clause-capture g c =
    rw c.as_slice.ensures
    (capture_same _ c.capture.inside.format c.capture.invariant c.capture.invariant.grain)

pub returns-clause-done : goal.returns-clause-done
returns-clause-done g c =
    on_ok_weaker c.write_items.result (written_same c.args.capture.now _ _)
    (rw (← c.capture.view_is, ← c.as_slice.ensures) c.write_items.ensures.done)

-- what holds of a fault holds of a weaker
fault_weaker : {P Q : Type 0} → (P → Q) → (e : Or Failed) → IfFault e (λ f. P) → IfFault e (λ f. Q)
fault_weaker f (Fault fault) p = f p
fault_weaker f NoMemory p = tt

pub returns-clause-cut_short : goal.returns-clause-cut_short
returns-clause-cut_short g c =
    IfErr-weaker c.write_items.result _ _
    (fault_weaker (cut_short_same c.args.capture.now _ _))
    (rw (← c.capture.view_is, ← c.as_slice.ensures) c.write_items.ensures.cut_short)
