use Rattle.interleavings.proofs.Shapes.{has_shape}
use Rattle.std.proofs.Common.{◌≡◌, ◌∙◌, refl, sym, true, false, arith}
use Rattle.std.specs.Prelude.{is_some}
use Rattle.std.proofs.lemmas.Bool.{lt-ltb, le-ltb}
use Rattle.interleavings.specs.declared.events.Event.TheVariants.{Set}
use Rattle.interleavings.specs.declared.events.Answer.TheVariants.{Done}
use Rattle.interleavings.specs.Core.{closing_in, taken_in}
use Rattle.interleavings.specs.Events.{answer_of, block_in, is_closed}
use Rattle.interleavings.proofs.Counting.{set_undrawn}
use Rattle.interleavings.proofs.Readiness.{closed_is, set_ready, unset_ready}
use Rattle.interleavings.proofs.Setting.{none_there}
use Rattle.interleavings.proofs.Stepping.{closing_is, closing_there, core_more, run_in}
use Rattle.interleavings.proofs.steps.set.Goals as goal

pub returns-then-has_block-clause-core : goal.returns-then-has_block-clause-core
returns-then-has_block-clause-core c =
    let s = c.args._session.now in
    let events = c.args._events.now in
    let core = c.requires.core in
    let taken = taken_in s events in
    let i = c.args.input in
    let t = c.args.tick in
    let told = rw (c.as_slice.ensures.value, core.ready.blocks i t) at c.has_block.ensures in
    let there : is_some (block_in taken i t) ≡ true = sym told ∙ c.if-has_block.true in
    core_more s events (Set i t c.args.block.now) c.args.facts.now c.args.facts.now core
    c.requires.range
    (unset_ready s.setup s.ticks s.workers taken i t c.args.block.now c.args.facts.now
    (has_shape s.setup core.setup) (run_in s events)
    (set_undrawn (is_some (block_in taken i t)) (is_closed taken i t)) (rw there refl) core.ready)

pub closing_at-requires : goal.closing_at-requires
closing_at-requires c =
    let s = c.args._session.now in
    closing_there s.setup s.workers (taken_in s c.args._events.now) c.args.facts.now c.args.input
    c.requires.core.ready c.requires.range.0

pub returns-then-tick-closing_at-clause-answer : goal.returns-then-tick-closing_at-clause-answer
returns-then-tick-closing_at-clause-answer c =
    let s = c.args._session.now in
    let core = c.requires.core in
    let taken = taken_in s c.args._events.now in
    let i = c.args.input in
    let t = c.args.tick in
    let told = rw (c.as_slice.ensures.value, core.ready.blocks i t) at c.has_block.ensures in
    let absent : is_some (block_in taken i t) ≡ false = sym told ∙ c.if-has_block.false in
    let last = c.closing_at.ensures
    ∙ closing_is s.setup s.workers taken c.args.facts.now i core.ready c.requires.range.0 in
    let closed : is_closed taken i t ≡ true =
    closed_is taken i t
    ∙ lt-ltb t (closing_in taken i) (omega (arith, c.if-tick-closing_at.true, last)) in
    rw (absent, closed) refl

pub returns-then-tick-closing_at-clause-core : goal.returns-then-tick-closing_at-clause-core
returns-then-tick-closing_at-clause-core c =
    let s = c.args._session.now in
    let events = c.args._events.now in
    let core = c.requires.core in
    let taken = taken_in s events in
    let i = c.args.input in
    let t = c.args.tick in
    let told = rw (c.as_slice.ensures.value, core.ready.blocks i t) at c.has_block.ensures in
    let absent : is_some (block_in taken i t) ≡ false = sym told ∙ c.if-has_block.false in
    let last = c.closing_at.ensures
    ∙ closing_is s.setup s.workers taken c.args.facts.now i core.ready c.requires.range.0 in
    let closed : is_closed taken i t ≡ true =
    closed_is taken i t
    ∙ lt-ltb t (closing_in taken i) (omega (arith, c.if-tick-closing_at.true, last)) in
    core_more s events (Set i t c.args.block.now) c.args.facts.now c.args.facts.now core
    c.requires.range
    (unset_ready s.setup s.ticks s.workers taken i t c.args.block.now c.args.facts.now
    (has_shape s.setup core.setup) (run_in s events)
    (set_undrawn (is_some (block_in taken i t)) (is_closed taken i t))
    (rw (absent, closed) refl) core.ready)

pub returns-clause-answer : goal.returns-clause-answer
returns-clause-answer c =
    let s = c.args._session.now in
    let core = c.requires.core in
    let taken = taken_in s c.args._events.now in
    let i = c.args.input in
    let t = c.args.tick in
    let told = rw (c.as_slice.ensures.value, core.ready.blocks i t) at c.has_block.ensures in
    let absent : is_some (block_in taken i t) ≡ false = sym told ∙ c.if-has_block.false in
    let last = c.closing_at.ensures
    ∙ closing_is s.setup s.workers taken c.args.facts.now i core.ready c.requires.range.0 in
    let open_it : is_closed taken i t ≡ false =
    closed_is taken i t
    ∙ le-ltb t (closing_in taken i) (omega (arith, c.if-tick-closing_at.false, last)) in
    rw (absent, open_it) refl

pub returns-clause-core : goal.returns-clause-core
returns-clause-core c =
    let s = c.args._session.now in
    let events = c.args._events.now in
    let core = c.requires.core in
    let old = c.args.facts.now in
    let taken = taken_in s events in
    let i = c.args.input in
    let t = c.args.tick in
    let told = rw (c.as_slice.ensures.value, core.ready.blocks i t) at c.has_block.ensures in
    let absent : is_some (block_in taken i t) ≡ false = sym told ∙ c.if-has_block.false in
    let last = c.closing_at.ensures
    ∙ closing_is s.setup s.workers taken old i core.ready c.requires.range.0 in
    let open_it : is_closed taken i t ≡ false =
    closed_is taken i t
    ∙ le-ltb t (closing_in taken i) (omega (arith, c.if-tick-closing_at.false, last)) in
    let is : answer_of s.setup s.ticks taken (Set i t c.args.block.now) ≡ Done =
    rw (absent, open_it) refl in
    let put = rw c.in_ok-copy.ensures at c.in_ok-put_block.ensures.put in
    core_more s events (Set i t c.args.block.now) old _ core c.requires.range
    (set_ready s.setup s.ticks s.workers taken i t c.args.block.now old _
    (has_shape s.setup core.setup) (run_in s events) is
    (none_there (block_in taken i t) absent)
    refl refl refl c.put_block.ensures.long put refl core.ready)
