use Rattle.std.proofs.Common.{ap, ◌∙◌, sym, Some}
use Rattle.block_builder.proofs.Blank.{block_given, block_missing}
use Rattle.block_builder.proofs.slot.Slot.into_block.Goals as goal

pub returns-then-is_held-clause-value : goal.returns-then-is_held-clause-value
returns-then-is_held-clause-value c = λ n held shown.
    ap Some c.from_vec.ensures ∙ block_given n held c.args.self.samples.items c.args.self.held.items
    (sym c.is_held.ensures ∙ c.if-is_held.true) shown

pub returns-else-is_held-clause-value : goal.returns-else-is_held-clause-value
returns-else-is_held-clause-value c = λ n held shown.
    block_missing n held c.args.self.samples.items c.args.self.held.items
    (sym c.is_held.ensures ∙ c.if-is_held.false) shown
