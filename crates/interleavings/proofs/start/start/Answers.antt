use Rattle.std.proofs.Common.{◌≡◌, ◌∙◌, ap, subst, length, ℕ}
use Rattle.map_entry.specs.Setup.{IsSetup}
use Rattle.interleavings.specs.declared.facts.Session.{Session}
use Rattle.interleavings.specs.Core.{no_sight, repeated}
use Rattle.interleavings.proofs.Ranging.{both}
use Rattle.interleavings.proofs.Stepping.{start_core}
use Rattle.interleavings.proofs.start.start.Goals as goal

pub returns : goal.returns
returns c =
    let s = c.args.session.now in
    let inputs : c.inputs-inputs.result ≡ length s.setup.device.inputs =
    c.inputs-inputs.ensures.value
    ∙ ap (λ (x : Session). length x.setup.device.inputs) c.session.view_is in
    start_core s _ (subst (λ (x : Session). IsSetup x.setup) c.session.view_is c.session.invariant)
    c.requires c.in_ok-new.ensures
    (c.in_ok-no_sights.ensures
    ∙ both (λ (n w : ℕ). repeated (no_sight n) w) inputs
    (ap (λ (x : Session). x.workers) c.session.view_is))
    (c.in_ok-no_blocks.ensures.long ∙ inputs) c.in_ok-no_blocks.ensures.none
    (c.in_ok-no_closings.ensures ∙ ap (repeated 0) inputs) c.no_history.ensures
