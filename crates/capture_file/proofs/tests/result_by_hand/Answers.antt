use Rattle.std.proofs.Common.{sym, ◌∙◌}
use Rattle.capture_file.proofs.Between.{left_of}
use Rattle.capture_file.specs.declared.format.Format.TheVariants.{One}
use Rattle.capture_file.proofs.tests.result_by_hand.Goals as goal

pub by_hand-requires : goal.by_hand-requires
by_hand-requires g c =
    left_of One _ _ (c.in_ok-history.ensures _ c.inputs.ensures.valid
    (sym c.inputs.ensures.value ∙ c.if-inputs-ne1.false))
