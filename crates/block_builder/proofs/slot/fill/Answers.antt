use Rattle.std.proofs.Common.{List, ℕ, sym, ap, ◌∙◌, true, Bool, ℤ}
use Rattle.std.specs.Prelude.{replicate}
use Rattle.block_builder.specs.Blocks.{piece_at}
use Rattle.block_builder.specs.Window.{IsShown, added}
use Rattle.block_builder.proofs.Filling.{subst2}
use Rattle.block_builder.proofs.Whole.{whole_count, whole_shown}
use Rattle.block_builder.proofs.slot.fill.Goals as goal

pub returns-then-not-is_any-clause-shown : goal.returns-then-not-is_any-clause-shown
returns-then-not-is_any-clause-shown c = λ held shown.
    let n = c.args.intake in
    let p = piece_at n c.args.first c.args.payload.now in
    subst2 (λ (s : List ℤ) (h : List Bool). IsShown n (added n p c.args.tick held) s h)
    (sym c.fill_whole.ensures.value)
    (ap (λ (k : ℕ). replicate k true) (sym c.requires.flags) ∙ sym c.fill_whole.ensures.held)
    (whole_shown n p c.args.tick c.in-Some.part.now held c.args.samples.now c.args.held.now
    c.in-Some.ensures (sym c.is_any.ensures ∙ c.if-not-is_any.true) shown)

pub returns-then-not-is_any-clause-count : goal.returns-then-not-is_any-clause-count
returns-then-not-is_any-clause-count c = λ held shown.
    whole_count c.args.intake (piece_at c.args.intake c.args.first c.args.payload.now) c.args.tick
    c.in-Some.part.now held c.args.samples.now c.args.held.now
    c.in-Some.ensures (sym c.is_any.ensures ∙ c.if-not-is_any.true) shown
