use Rattle.interleavings.proofs.Shapes.{has_shape}
use Rattle.std.proofs.Common.{◌≡◌, ◌∙◌, ◌+◌, refl, sym, ap, set, ℕ, List, Some}
use Rattle.std.proofs.Common.{rules}
use Rattle.book_words.specs.declared.history.ClaimItem.{ClaimItem}
use Rattle.plain_book.specs.Desk.{DeskParts, desk_parts}
use Rattle.book_words.specs.History.{history_of}
use Rattle.interleavings.specs.declared.events.Event.TheVariants.{Claim}
use Rattle.interleavings.specs.declared.events.Answer.TheVariants.{Claimed, Over}
use Rattle.interleavings.specs.Core.{taken_in}
use Rattle.interleavings.specs.Events.{answer_of, claims_in, journal_in}
use Rattle.interleavings.proofs.Changing.{claim_ready}
use Rattle.interleavings.proofs.Readiness.{over_ready}
use Rattle.interleavings.proofs.Stepping.{can_show, core_more, run_in, sight_is, sight_there}
use Rattle.interleavings.proofs.steps.claim.Goals as goal

pub returns-then-k-session-clause-core : goal.returns-then-k-session-clause-core
returns-then-k-session-clause-core c =
    let s = c.args.session.now in
    let events = c.args._events.now in
    let core = c.requires.core in
    let taken = taken_in s events in
    let is : Over ≡ answer_of s.setup s.ticks taken (Claim c.args.worker) = search rules in
    core_more s events (Claim c.args.worker) c.args.facts.now c.args.facts.now core c.requires.range
    (over_ready s.setup s.ticks s.workers taken c.args.worker c.args.facts.now
    (has_shape s.setup core.setup) (run_in s events) (sym is) core.ready)

pub sight_at-requires : goal.sight_at-requires
sight_at-requires c =
    let s = c.args.session.now in
    sight_there s.setup s.workers (taken_in s c.args._events.now) c.args.facts.now c.args.worker
    c.requires.core.ready c.requires.range

pub show-requires-clause-facts : goal.show-requires-clause-facts
show-requires-clause-facts c =
    can_show c.args.session.now c.args._events.now c.args.facts.now c.requires.core

pub set-requires : goal.set-requires
set-requires c =
    let s = c.args.session.now in
    sight_there s.setup s.workers (taken_in s c.args._events.now) c.args.facts.now c.args.worker
    c.requires.core.ready c.requires.range

pub returns-clause-core : goal.returns-clause-core
returns-clause-core c =
    let s = c.args.session.now in
    let events = c.args._events.now in
    let core = c.requires.core in
    let old = c.args.facts.now in
    let taken = taken_in s events in
    let is : Claimed c.claims-k.result
    ≡ answer_of s.setup s.ticks taken (Claim c.args.worker) = search rules in
    let k_is : c.claims-k.result ≡ claims_in taken =
    c.claims-k.ensures.value ∙ ap (λ (d : DeskParts). d.claims) core.ready.desk in
    let j_is : old.desk.journal ≡ journal_in s.setup taken =
    ap (λ (d : DeskParts). d.journal) core.ready.desk in
    let seen = c.in_ok-seen.seen in
    core_more s events (Claim c.args.worker) old _ core c.requires.range
    (claim_ready s.setup s.ticks s.workers taken c.args.worker c.sight_at.result.now
    c.in_ok-item.item seen old _ (has_shape s.setup core.setup)
    (run_in s events)
    (sym is ∙ ap Claimed k_is) c.requires.range
    (sight_is s.setup s.workers taken old c.args.worker c.sight_at.result.now core.ready
    c.requires.range c.sight_at.ensures)
    (rw k_is at c.in_ok-seen.ensures)
    (rw (c.as_slice.ensures, j_is, k_is) at c.in_ok-item.ensures)
    (c.raise.ensures ∙ ap (λ (d : DeskParts). desk_parts d.setup (d.claims + 1) d.journal)
    core.ready.desk)
    (c.set.ensures
    ∙ ap (λ (z : ℕ). set old.sights c.args.worker (record { latest = Some z; seen = seen })) k_is)
    refl refl
    (ap (λ (z : List ClaimItem). history_of z old.history.journal old.history.replies)
    c.in_ok-push.ensures.ok)
    core.ready)
