use Rattle.std.proofs.Common.{rules, ◌≡◌, ◌+◌, ◌*◌, ◌<◌, get_or, ℕ, ℤ, sym, ap}
use Rattle.std.proofs.Common.{◌∙◌, subst, w32, arith}
use Rattle.std.specs.Prelude.{pos}
use Rattle.std.proofs.lemmas.Int.{to_z-of_z}
use mir.Val.{SFits}
use Rattle.input_rule.specs.Words.{block_len}
use Rattle.input_cells.specs.Faces.{InputFace}
use Rattle.input_cells.specs.Feeding.{Spells, StoresSample}
use Rattle.input_cells.proofs.Feeding.{spell_more, spell_none}
use Rattle.input_cells.proofs.feeder.InputFeeder.store_samples.Goals as goal

pub loop-frame-init : goal.loop-frame-init
loop-frame-init c =
    subst (λ (n : ℕ). Spells c.args.self.now c.args.self.now c.args.tick c.args.samples.now n)
    (omega arith) (spell_none c.args.self.now c.args.tick c.args.samples.now)

pub loop-channel-preserved : goal.loop-channel-preserved
loop-channel-preserved c =
    let same : c.table.inside.shape.channels ≡ c.args.table.now.shape.channels =
    ap (λ (z : InputFace). z.shape.channels) c.table.view_is in
    let place : ℕ = c.loop-frame.frame * c.table.inside.shape.channels + c.loop-channel.channel in
    let fits : SFits w32 (get_or c.args.samples.now place (pos 0)) = search rules in
    let before = subst
    (λ (n : ℕ). Spells c.args.self.now c.loop-channel.self c.args.tick c.args.samples.now
    (c.loop-frame.frame * n + c.loop-channel.channel)) (sym same) c.loop-channel.invariant in
    let inside : place < block_len c.args.self.now.view.shape = search rules in
    let more = spell_more c.args.self.now c.loop-channel.self c.store_sample.new.self c.args.tick
    c.args.samples.now place before
    (subst (λ (z : ℤ). StoresSample c.loop-channel.self c.store_sample.new.self c.args.tick place z)
    (to_z-of_z w32 _ fits) c.store_sample.ensures) inside in
    subst (λ (n : ℕ). Spells c.args.self.now c.store_sample.new.self c.args.tick c.args.samples.now
    n)
    (ap (λ (n : ℕ). c.loop-frame.frame * n + c.loop-channel.channel + 1) same ∙ omega arith) more
