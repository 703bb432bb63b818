use Rattle.std.proofs.Common.{◌≡◌, ℕ, ◌+◌, ◌≤◌, List, [], ◌∷◌, length, sym, ap, ◌∙◌, subst, arith}
use Rattle.std.proofs.Math.Nat.{zero-div}
use Rattle.map_entry.specs.declared.entry.Entry.{Entry}
use Rattle.map_entry.specs.Setup.{SetupParts, IsSetup}
use Rattle.claim_rule.specs.Rule.{Rises}
use Rattle.claim_word.proofs.BaseRows.{AreFirst, first_base, first_more, first_none}
use Rattle.claim_word.specs.Starts.{IsBase}
use Rattle.packet_worker.proofs.tests.base_entries.Goals as goal

-- a list whose claims end at a number may end at a later one
rises_later : (low high later : ℕ) (es : List Entry) → high ≤ later → Rises low es high
    → Rises low es later
rises_later low high later [] le h = omega (arith, le, h)
rises_later low high later (e ∷ es) le h = (h.0, rises_later e.at high later es le h.1)

-- a table may begin with the same entries at a later claim
base_later : (s : SetupParts) (from : ℕ) (es : List Entry) → IsBase s 0 es → IsBase s from es
base_later s from es b = record {
  few = b.few;
  rows = b.rows;
  ticks = b.ticks;
  rises = rises_later 0 0 from es (omega arith) b.rises;
  covers = λ o key there since. b.covers o key there
      (let z = zero-div (length s.device.outputs) in omega (arith, z, since));
}

pub loop-output-init : goal.loop-output-init
loop-output-init c =
    subst (λ (es : List Entry). AreFirst c.args.setup.now es 0) (sym c.new-made.ensures)
    (first_none c.args.setup.now)

pub loop-output-preserved : goal.loop-output-preserved
loop-output-preserved c =
    let s : SetupParts = c.args.setup.now in let o : ℕ = c.loop-output.output in
    let e = c.in_ok-entry.ensures in
    subst (λ (es : List Entry). AreFirst s es (o + 1)) (sym c.in_ok-push.ensures.ok)
    (first_more s c.loop-output.made o c.in_ok-entry.entry c.loop-output.invariant e.output e.tick
    e.offset e.at e.ok)

pub returns-clause-base : goal.returns-clause-base
returns-clause-base c from =
    let s : SetupParts = c.args.setup.now in
    let n : c.outputs-output-end.result ≡ length s.device.outputs =
    c.outputs-output-end.ensures.value ∙ ap (λ (x : SetupParts). length x.device.outputs)
    c.setup.view_is in
    let all : c.loop-output.output ≡ length s.device.outputs =
    omega (arith, c.loop-output-test.false, c.loop-output.auto.output-end, n) in
    base_later s from c.loop-output.made
    (first_base s c.loop-output.made (subst IsSetup c.setup.view_is c.setup.invariant)
    (subst (AreFirst s c.loop-output.made) all c.loop-output.invariant))

pub returns-clause-few : goal.returns-clause-few
returns-clause-few c =
    let valid = subst IsSetup c.setup.view_is c.setup.invariant in valid.device.bounds.few_outputs
