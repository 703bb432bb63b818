use Rattle.std.proofs.Common.{rules, List, sym, subst}
use Rattle.std.proofs.lemmas.Fn.{filter_same}
use Rattle.block_builder.specs.declared.slot.Slot.{Slot}
use Rattle.block_builder.specs.Window.{IsWindow}
use Rattle.block_builder.proofs.Windows.{window_kept}
use Rattle.block_builder.proofs.window.drop_blanks.Goals as goal

pub returns-clause-window : goal.returns-clause-window
returns-clause-window c = λ n first m w.
    subst (λ (ss : List Slot). IsWindow n m first ss)
    (sym (filter_same _ _ _ (λ x b f k. search rules) _ _ c.retain.ensures.filtered))
    (window_kept n m first c.args.slots.now.items w)
