use Rattle.std.proofs.Common.{ℕ, List, [], refl, sym, ap, subst}
use Rattle.atomic_table.specs.Table.{opening}
use Rattle.input_rule.specs.Rule.{Keeps}
use Rattle.input_rule.specs.Views.{feeder}
use Rattle.input_rule.specs.Words.{first_words}
use Rattle.input_rule.proofs.Steps.{opens, first_shown}
use Rattle.input_cells.specs.Feeding.{IsFeeding}
use Rattle.input_cells.proofs.Laying.{first_part}
use Rattle.input_cells.proofs.one.OneInput.start.Goals as goal

pub of_words-requires : goal.of_words-requires
of_words-requires c =
    subst (λ (ws : List ℕ).
    Keeps c.args.shape (opening ws [] (feeder c.args.shape (first_words c.args.shape))))
    (sym (first_part c.args.shape c.args.row.now c.requires.row)) (opens c.args.shape)

pub invariant_of-result : goal.invariant_of-result
invariant_of-result c =
    let me = c.in_ok-table.ensures.4 in (
      subst IsFeeding (sym (ap (λ m. m.0) me))
          (record { live = refl; feeds = refl; words = first_shown c.args.shape }),
      ap (λ m. m.1) me,
    )
