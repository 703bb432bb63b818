use Rattle.std.proofs.Common.{List, Bool, ℤ, sym}
use Rattle.block_builder.proofs.Blank.{blank_shown}
use Rattle.block_builder.proofs.Filling.{subst2}
use Rattle.block_builder.specs.Window.{IsShown}
use Rattle.block_builder.proofs.slot.Slot.blank.Goals as goal

pub returns-clause-shown : goal.returns-clause-shown
returns-clause-shown c = λ held none.
    subst2 (λ (s : List ℤ) (h : List Bool). IsShown c.args.intake held s h)
    (sym (c.in_ok-vec.ensures.items_if_clones_equal (λ y e. e)))
    (sym (c.in_ok-vec-2.ensures.items_if_clones_equal (λ y e. e)))
    (blank_shown c.args.intake held none)
