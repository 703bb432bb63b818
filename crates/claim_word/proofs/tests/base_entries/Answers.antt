use Rattle.std.proofs.Common.{◌≡◌, ℕ, ◌+◌, List, length, sym, ap, ◌∙◌, subst, arith}
use Rattle.map_entry.specs.declared.entry.Entry.{Entry}
use Rattle.map_entry.specs.Setup.{SetupParts, IsSetup}
use Rattle.claim_word.proofs.BaseRows.{AreFirst, first_base, first_more, first_none}
use Rattle.claim_word.proofs.tests.base_entries.Goals as goal

pub loop-output-init : goal.loop-output-init
loop-output-init c =
    subst (λ (es : List Entry). AreFirst c.args.setup.now es 0) (sym c.new-made.ensures)
    (first_none c.args.setup.now)

pub loop-output-preserved : goal.loop-output-preserved
loop-output-preserved c =
    let s : SetupParts = c.args.setup.now in let o : ℕ = c.loop-output.output in
    let e = c.in_ok-entry.ensures in
    subst (λ (es : List Entry). AreFirst s es (o + 1)) (sym c.in_ok-push.ensures.ok)
    (first_more s c.loop-output.made o c.in_ok-entry.entry c.loop-output.invariant e.output e.tick
    e.offset e.at e.ok)

pub returns-clause-base : goal.returns-clause-base
returns-clause-base c =
    let s : SetupParts = c.args.setup.now in
    let n : c.outputs-output-end.result ≡ length s.device.outputs =
    c.outputs-output-end.ensures.value ∙ ap (λ (x : SetupParts). length x.device.outputs)
    c.setup.view_is in
    let all : c.loop-output.output ≡ length s.device.outputs =
    omega (arith, c.loop-output-test.false, c.loop-output.auto.output-end, n) in
    first_base s c.loop-output.made (subst IsSetup c.setup.view_is c.setup.invariant)
    (subst (AreFirst s c.loop-output.made) all c.loop-output.invariant)

pub returns-clause-few : goal.returns-clause-few
returns-clause-few c =
    let valid = subst IsSetup c.setup.view_is c.setup.invariant in valid.device.bounds.few_outputs
