use Rattle.std.proofs.Common.{◌≡◌, ◌∙◌, ◌++◌, ◌∷◌, [], ap, take, length, ℕ}
use Rattle.std.proofs.Math.Seq.{take-append_seam}
use Rattle.interleavings.specs.declared.events.Event.{Event}
use Rattle.interleavings.specs.Core.{core_parts}
use Rattle.interleavings.specs.Events.{run_of}
use Rattle.interleavings.proofs.Stepping.{run_of_more}
use Rattle.interleavings.proofs.machine.Core.step.Goals as goal

pub invariant_of-self-in-Ok : goal.invariant_of-self-in-Ok
invariant_of-self-in-Ok c =
    let old = c.self.inside.events in
    let more : c.push.new.self ≡ old ++ c.args.event.now ∷ [] =
    c.in_ok-push.ensures.ok ∙ ap (λ (e : Event). old ++ e ∷ []) c.in_ok-copy.ensures in
    let before_is : take c.len-count.result c.as_slice.result.now ≡ old =
    ap (λ (n : ℕ). take n c.as_slice.result.now) c.len-count.ensures
    ∙ ap (take (length old)) (c.as_slice.ensures ∙ more)
    ∙ take-append_seam old (c.args.event.now ∷ []) in
    rw more (rw before_is at c.in-Ok.ensures.core)

pub returns-in-Ok-clause-taken : goal.returns-in-Ok-clause-taken
returns-in-Ok-clause-taken c =
    let s = c.self.inside.session.setup in
    let ticks = c.self.inside.session.ticks in
    let old = c.self.inside.events in
    let more : c.push.new.self ≡ old ++ c.args.event.now ∷ [] =
    c.in_ok-push.ensures.ok ∙ ap (λ (e : Event). old ++ e ∷ []) c.in_ok-copy.ensures in
    rw (← c.self.view_is)
    (ap (core_parts s ticks c.self.inside.session.workers)
    (ap (run_of s ticks) more ∙ run_of_more s ticks old c.args.event.now))
