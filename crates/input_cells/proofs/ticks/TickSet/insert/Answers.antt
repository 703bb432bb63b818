use Rattle.std.proofs.Common.{◌*◌, ℕ, List, ap, ◌∙◌}
use Rattle.input_cells.specs.Ticks.{bit_of}
use Rattle.input_cells.proofs.Bits.{placed_here, placed_others, word_inside}
use Rattle.input_cells.proofs.ticks.TickSet.insert.Goals as goal

pub returns-clause-here : goal.returns-clause-here
returns-clause-here c =
    placed_here c.self.inside.words c.args.at
    (word_inside c.self.inside.words c.args.at (ap (λ (n : ℕ). n * 64) c.self.told) c.requires)

pub returns-clause-others : goal.returns-clause-others
returns-clause-others c k apart =
    placed_others c.self.inside.words c.args.at k
    (word_inside c.self.inside.words c.args.at (ap (λ (n : ℕ). n * 64) c.self.told) c.requires)
    apart ∙ ap (λ (w : List ℕ). bit_of w k) c.self.view_is
