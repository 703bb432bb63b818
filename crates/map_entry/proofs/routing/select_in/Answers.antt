use Rattle.std.proofs.Common.{◌≡◌, ℕ, Some, true, false, sym, ◌∙◌, arith}
use Rattle.map_entry.specs.Entry.{due, rules, selected}
use Rattle.map_entry.specs.Tick.{frame_key}
use Rattle.map_entry.proofs.Selection.{selected-step}
use Rattle.map_entry.proofs.routing.select_in.Goals as goal

pub returns-then-rules : goal.returns-then-rules
returns-then-rules c =
    let key : ℕ = frame_key c.args.tick c.args.frame in
    let step = selected-step due c.args.entries.now c.loop-at.at c.index-entries-at.result c.args.output key (omega arith)
    (omega arith) c.index-entries-at.is in
    let hit : rules due c.args.output key c.index-entries-at.result ≡ true = sym c.rules.ensures ∙ c.if-rules.true in
    let whole : selected c.args.entries.now c.args.output key ≡ Some c.index-entries-at.result.row = c.loop-at.invariant ∙ rw hit at step in
    sym whole

pub loop-at-preserved : goal.loop-at-preserved
loop-at-preserved c =
    let key : ℕ = frame_key c.args.tick c.args.frame in
    let step = selected-step due c.args.entries.now c.loop-at.at c.index-entries-at.result c.args.output key (omega arith)
    (omega arith) c.index-entries-at.is in
    let other : rules due c.args.output key c.index-entries-at.result ≡ false = sym c.rules.ensures ∙ c.if-rules.false in
    c.loop-at.invariant ∙ rw other at step
