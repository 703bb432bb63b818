use Rattle.interleavings.proofs.Shapes.{has_shape}
use Rattle.std.proofs.Common.{◌≡◌, ◌∙◌, refl, sym, ap, true, length, List, None}
use Rattle.std.proofs.Common.{arith}
use Rattle.std.proofs.lemmas.List.FromFn.{length-map-range_with_len}
use Rattle.book_words.specs.declared.history.ClaimItem.{ClaimItem}
use Rattle.plain_book.specs.Desk.{DeskParts}
use Rattle.book_words.specs.History.{history_of}
use Rattle.plain_book.specs.Time.{tick_of_claim}
use Rattle.interleavings.specs.declared.events.Event.TheVariants.{Look}
use Rattle.interleavings.specs.declared.events.Answer.TheVariants.{Seen}
use Rattle.interleavings.specs.declared.facts.Sight.{Sight}
use Rattle.interleavings.specs.Core.{sees, taken_in}
use Rattle.interleavings.specs.Events.{answer_of, journal_in, latest_of}
use Rattle.interleavings.proofs.Changing.{look_ready}
use Rattle.interleavings.proofs.Readiness.{unseen_ready}
use Rattle.interleavings.proofs.Stepping.{can_show, claims_long, core_more, has_claim, run_in}
use Rattle.interleavings.proofs.Stepping.{sight_is, sight_there}
use Rattle.interleavings.proofs.steps.look.Goals as goal

pub sight_at-sight-requires : goal.sight_at-sight-requires
sight_at-sight-requires c =
    let s = c.args.session.now in
    sight_there s.setup s.workers (taken_in s c.args._events.now) c.args.facts.now c.args.worker
    c.requires.core.ready c.requires.range.0

pub returns-in-None-clause-answer : goal.returns-in-None-clause-answer
returns-in-None-clause-answer c =
    let s = c.args.session.now in
    let taken = taken_in s c.args._events.now in
    let its = sight_is s.setup s.workers taken c.args.facts.now c.args.worker
    c.sight_at-sight.result.now c.requires.core.ready c.requires.range.0
    c.sight_at-sight.ensures in
    let none : latest_of c.args.worker taken ≡ None =
    sym (ap (λ (x : Sight). x.latest) its) ∙ c.in-None.is in
    rw none refl

pub returns-in-None-clause-core : goal.returns-in-None-clause-core
returns-in-None-clause-core c =
    let s = c.args.session.now in
    let events = c.args._events.now in
    let core = c.requires.core in
    let taken = taken_in s events in
    let its = sight_is s.setup s.workers taken c.args.facts.now c.args.worker
    c.sight_at-sight.result.now core.ready c.requires.range.0
    c.sight_at-sight.ensures in
    let none : latest_of c.args.worker taken ≡ None =
    sym (ap (λ (x : Sight). x.latest) its) ∙ c.in-None.is in
    core_more s events (Look c.args.worker c.args.input) c.args.facts.now c.args.facts.now core
    c.requires.range
    (unseen_ready s.setup s.ticks s.workers taken c.args.worker c.args.input c.args.facts.now
    (has_shape s.setup core.setup) (run_in s events)
    (rw none refl) (rw none refl) core.ready)

pub tick_of-requires : goal.tick_of-requires
tick_of-requires c =
    (has_claim c.args.session.now c.args._events.now c.args.facts.now c.args.worker c.in-Some.k
    c.sight_at-sight.result.now c.requires.core
    c.requires.range.0 c.sight_at-sight.ensures c.in-Some.is).low

pub returns-then-not-has_block-clause-answer : goal.returns-then-not-has_block-clause-answer
returns-then-not-has_block-clause-answer c =
    let s = c.args.session.now in
    let its = has_claim s c.args._events.now c.args.facts.now c.args.worker c.in-Some.k
    c.sight_at-sight.result.now c.requires.core c.requires.range.0
    c.sight_at-sight.ensures c.in-Some.is in
    let told = rw (
      c.as_slice.ensures.value,
      c.tick_of.ensures,
      c.requires.core.ready.blocks c.args.input (tick_of_claim s.setup c.in-Some.k),
    ) at
    c.has_block.ensures in
    let absent = sym told ∙ c.if-not-has_block.true in
    rw (its.latest, absent) refl

pub returns-then-not-has_block-clause-core : goal.returns-then-not-has_block-clause-core
returns-then-not-has_block-clause-core c =
    let s = c.args.session.now in
    let events = c.args._events.now in
    let core = c.requires.core in
    let taken = taken_in s events in
    let its = has_claim s events c.args.facts.now c.args.worker c.in-Some.k
    c.sight_at-sight.result.now core c.requires.range.0 c.sight_at-sight.ensures
    c.in-Some.is in
    let told = rw (
      c.as_slice.ensures.value,
      c.tick_of.ensures,
      core.ready.blocks c.args.input (tick_of_claim s.setup c.in-Some.k),
    ) at
    c.has_block.ensures in
    let absent = sym told ∙ c.if-not-has_block.true in
    core_more s events (Look c.args.worker c.args.input) c.args.facts.now c.args.facts.now core
    c.requires.range
    (unseen_ready s.setup s.ticks s.workers taken c.args.worker c.args.input c.args.facts.now
    (has_shape s.setup core.setup) (run_in s events)
    (rw (its.latest, absent) refl) (rw its.latest refl) core.ready)

pub saw-requires-clause-facts : goal.saw-requires-clause-facts
saw-requires-clause-facts c =
    can_show c.args.session.now c.args._events.now c.args.facts.now c.requires.core

pub saw-requires-clause-claim : goal.saw-requires-clause-claim
saw-requires-clause-claim c =
    (has_claim c.args.session.now c.args._events.now c.args.facts.now c.args.worker c.in-Some.k
    c.sight_at-sight.result.now c.requires.core
    c.requires.range.0 c.sight_at-sight.ensures c.in-Some.is).low

pub saw-requires-clause-input : goal.saw-requires-clause-input
saw-requires-clause-input c =
    let s = c.args.session.now in
    let taken = taken_in s c.args._events.now in
    let its = sight_is s.setup s.workers taken c.args.facts.now c.args.worker
    c.sight_at-sight.result.now c.requires.core.ready c.requires.range.0
    c.sight_at-sight.ensures in
    omega (
      arith,
      c.requires.range.1,
      ap (λ (x : Sight). length x.seen) its
          ∙ length-map-range_with_len (sees s.setup taken c.args.worker) 0
          (length s.setup.device.inputs),
    )

pub set-requires : goal.set-requires
set-requires c =
    let s = c.args.session.now in
    let its = has_claim s c.args._events.now c.args.facts.now c.args.worker c.in-Some.k
    c.sight_at-sight.result.now c.requires.core c.requires.range.0
    c.sight_at-sight.ensures c.in-Some.is in
    omega (
      arith,
      its.made,
      claims_long s.setup s.workers (taken_in s c.args._events.now) c.args.facts.now
          c.requires.core.ready,
    )

pub set-requires-2 : goal.set-requires-2
set-requires-2 c =
    let s = c.args.session.now in
    sight_there s.setup s.workers (taken_in s c.args._events.now) c.args.facts.now c.args.worker
    c.requires.core.ready c.requires.range.0

pub returns-clause-answer : goal.returns-clause-answer
returns-clause-answer c =
    let s = c.args.session.now in
    let its = has_claim s c.args._events.now c.args.facts.now c.args.worker c.in-Some.k
    c.sight_at-sight.result.now c.requires.core c.requires.range.0
    c.sight_at-sight.ensures c.in-Some.is in
    let told = rw (
      c.as_slice.ensures.value,
      c.tick_of.ensures,
      c.requires.core.ready.blocks c.args.input (tick_of_claim s.setup c.in-Some.k),
    ) at
    c.has_block.ensures in
    let present = sym told ∙ c.if-not-has_block.false in
    rw (its.latest, present) refl

pub returns-clause-core : goal.returns-clause-core
returns-clause-core c =
    let s = c.args.session.now in
    let events = c.args._events.now in
    let core = c.requires.core in
    let old = c.args.facts.now in
    let taken = taken_in s events in
    let k = c.in-Some.k in
    let sight = c.sight_at-sight.result.now in
    let its = has_claim s events old c.args.worker k sight core c.requires.range.0
    c.sight_at-sight.ensures c.in-Some.is in
    let told = rw (
      c.as_slice.ensures.value,
      c.tick_of.ensures,
      core.ready.blocks c.args.input (tick_of_claim s.setup k),
    ) at c.has_block.ensures in
    let present = sym told ∙ c.if-not-has_block.false in
    let is : answer_of s.setup s.ticks taken (Look c.args.worker c.args.input) ≡ Seen true =
    rw (its.latest, present) refl in
    let j_is : old.desk.journal ≡ journal_in s.setup taken =
    ap (λ (d : DeskParts). d.journal) core.ready.desk in
    core_more s events (Look c.args.worker c.args.input) old _ core c.requires.range
    (look_ready s.setup s.ticks s.workers taken c.args.worker c.args.input k sight c.in_ok-seen.item
    c.in_ok-seen.seen old _
    (has_shape s.setup core.setup) (run_in s events) is
    c.requires.range.0 c.requires.range.1
    (sight_is s.setup s.workers taken old c.args.worker sight core.ready c.requires.range.0
    c.sight_at-sight.ensures)
    c.in-Some.is
    c.in_ok-seen.ensures.seen (rw j_is at c.in_ok-seen.ensures.claim) refl c.set-2.ensures refl refl
    (ap (λ (z : List ClaimItem). history_of z old.history.journal old.history.replies)
    c.set.ensures) core.ready)
