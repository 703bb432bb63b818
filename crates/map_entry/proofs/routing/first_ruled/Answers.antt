use Rattle.std.proofs.Common.{◌≡◌, ◌+◌, ◌∷◌, ◌++◌, [], List, get_or, length, take, true, false, sym, ap, ◌∙◌, subst, arith, rules}
use Rattle.std.proofs.lemmas.List.{take_more}
use Rattle.map_entry.specs.declared.entry.Entry.{Entry}
use Rattle.map_entry.specs.Entry.{due, rules as rules_it, IsFirstRuled}
use Rattle.map_entry.specs.Tick.{frame_key}
use Rattle.map_entry.proofs.Selection.{first_more, first_same}
use Rattle.map_entry.proofs.routing.first_ruled.Goals as goal
use Rattle.map_entry.proofs.routing.first_ruled.Goals.{then-rules, else-rules}

pub loop-entry-preserved : goal.loop-entry-preserved
loop-entry-preserved c =
    let es : List Entry = take c.loop-entry.entry-index c.args.later.now in
    let e : Entry = c.entry-item.result in
    let more : take (c.loop-entry.entry-index + 1) c.args.later.now ≡ es ++ e ∷ [] =
    take_more c.args.later.now c.loop-entry.entry-index e (search rules)
    ∙ ap (λ (x : Entry). es ++ x ∷ []) (sym c.entry-item.is) in
    let test = sym c.rules.ensures in
    let missed : rules_it due c.args.output (frame_key c.args.tick c.args.frame) e ≡ false =
    ap (rules_it due c.args.output (frame_key c.args.tick c.args.frame)) c.entry-item.is
    ∙ c.requires.none c.loop-entry.entry-index e (search rules) in
    elim c.if-rules.branch [
      | then-rules w ↦
          rw (more, w.upto-is)
          (first_more es e c.args.output c.args.tick c.args.frame c.args.frames c.loop-entry.upto c.loop-entry.invariant
          missed
          (test ∙ w.if-rules.true) (search rules) (search rules))
      | else-rules w ↦
          rw (more, w.upto-is)
          (first_same es e c.args.output c.args.tick c.args.frame c.args.frames c.loop-entry.upto c.loop-entry.invariant (test ∙ w.if-rules.false))
    ]
