use Rattle.std.proofs.Common.{◌≡◌, ◌∙◌, List, length, sym, ap, subst}
use Rattle.std.specs.Prelude.{ℤ}
use Rattle.input_rule.specs.Words.{HasTick, block_len}
use Rattle.input_cells.specs.Faces.{SeatFace}
use Rattle.input_cells.specs.Feeding.{Sets, Spells}
use Rattle.input_cells.proofs.Feeding.{set_done}
use Rattle.input_cells.proofs.feed.FeedPass.set.Goals as goal

pub returns-clause-ok : goal.returns-clause-ok
returns-clause-ok c =
    let block : c.as_slice.result.now ≡ c.args.block.now = c.as_slice.ensures in
    let spelt = subst
    (λ (l : List ℤ). Spells c.self.inside.feeder c.store_samples.new.self c.args.tick l
    (length l)) block c.store_samples.ensures in
    subst (λ (z : SeatFace). Sets z c.store_presence.new.self c.args.tick c.args.block.now)
    c.self.view_is
    (set_done c.self.inside.feeder c.store_samples.new.self c.store_presence.new.self c.args.tick
    c.args.block.now spelt c.store_presence.ensures
    (subst (λ (z : SeatFace). HasTick z.view.shape c.args.tick) (sym c.self.view_is)
    c.requires.may.1)
    (c.requires.may.3 ∙ ap (λ (z : SeatFace). block_len z.view.shape) (sym c.self.view_is)))
