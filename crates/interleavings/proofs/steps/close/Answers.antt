use Rattle.interleavings.proofs.Shapes.{has_shape}
use Rattle.std.proofs.Common.{◌∙◌, refl, ap, set, max, ℕ}
use Rattle.interleavings.specs.declared.events.Event.TheVariants.{Close}
use Rattle.interleavings.specs.Core.{taken_in}
use Rattle.interleavings.proofs.Readiness.{close_ready}
use Rattle.interleavings.proofs.Stepping.{closing_is, closing_there, core_more, run_in}
use Rattle.interleavings.proofs.steps.close.Goals as goal

pub closing_at-last-requires : goal.closing_at-last-requires
closing_at-last-requires c =
    let s = c.args._session.now in
    closing_there s.setup s.workers (taken_in s c.args._events.now) c.args.facts.now c.args.input
    c.requires.core.ready c.requires.range

pub set-requires : goal.set-requires
set-requires c =
    let s = c.args._session.now in
    closing_there s.setup s.workers (taken_in s c.args._events.now) c.args.facts.now c.args.input
    c.requires.core.ready c.requires.range

pub returns-clause-core : goal.returns-clause-core
returns-clause-core c =
    let s = c.args._session.now in
    let events = c.args._events.now in
    let core = c.requires.core in
    let old = c.args.facts.now in
    let taken = taken_in s events in
    let last = c.closing_at-last.ensures
    ∙ closing_is s.setup s.workers taken old c.args.input core.ready c.requires.range in
    core_more s events (Close c.args.input c.args.upto) old _ core c.requires.range
    (close_ready s.setup s.ticks s.workers taken c.args.input c.args.upto old _
    (has_shape s.setup core.setup) (run_in s events) c.requires.range refl
    refl refl refl
    (c.set.ensures ∙ ap (λ (z : ℕ). set old.closings c.args.input z)
    (c.max.ensures ∙ ap (λ (z : ℕ). max z c.args.upto) last)) core.ready)
