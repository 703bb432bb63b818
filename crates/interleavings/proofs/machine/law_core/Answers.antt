use Rattle.std.proofs.Common.{◌≡◌, ◌∙◌, ◌<◌, ◌+◌, ◌++◌, ◌∷◌, [], ap, sym, subst, map, take, get_or}
use Rattle.std.proofs.Common.{length, rules, arith}
use Rattle.std.proofs.lemmas.List.{take_all, take_more}
use Rattle.plain_book.specs.Journal.{entries_of}
use Rattle.plain_book.specs.Rows.{AreRows}
use Rattle.interleavings.specs.declared.events.Event.{Event}
use Rattle.interleavings.specs.Core.{CoreParts, IsLegalCore, core_parts}
use Rattle.interleavings.specs.Events.{IsRun, run_of, taken_by}
use Rattle.interleavings.specs.Run.{history_in}
use Rattle.interleavings.proofs.Stepping.{events_of_run, is_run, passing, run_of_more, run_of_none}
use Rattle.interleavings.proofs.Whole.{run_legal}
use Rattle.interleavings.proofs.machine.law_core.Goals as goal

pub loop-event-init : goal.loop-event-init
loop-event-init c = record {
  setup = c.in_ok-core.ensures.setup;
  core = c.in_ok-core.ensures.value
      ∙ ap (core_parts c.args.setup.now c.args.ticks c.args.workers)
      (sym (run_of_none c.args.setup.now c.args.ticks));
}

pub loop-event-preserved : goal.loop-event-preserved
loop-event-preserved c =
    let s = c.args.setup.now in
    let ticks = c.args.ticks in
    let i = c.loop-event.event-index in
    let events = c.args.events.now in
    let e = c.event-item.result in
    let lt : i < length events = search rules in
    let here : get_or events i e ≡ e = search rules in
    let next : take (i + 1) events ≡ take i events ++ e ∷ [] =
    take_more events i e lt ∙ ap (λ (x : Event). take i events ++ x ∷ []) here in
    record {
      setup = c.loop-event.invariant.setup;
      core = c.in_ok-_answer.ensures.taken
          ∙ ap (λ (x : CoreParts).
          core_parts x.setup x.ticks x.workers (x.taken ++ taken_by x.setup x.ticks x.taken e ∷ []))
          c.loop-event.invariant.core
          ∙ ap (core_parts s ticks c.args.workers)
          (sym (run_of_more s ticks (take i events) e) ∙ ap (run_of s ticks) (sym next));
    }

pub returns-clause-events : goal.returns-clause-events
returns-clause-events c =
    let events = c.args.events.now in
    let i = c.loop-event.event-index in
    let long : length c.as_slice-event-items.result.now ≡ length events =
    ap length c.as_slice-event-items.ensures in
    let whole : take i events ≡ events =
    take_all i events (omega (arith, long, c.loop-event-test.false)) in
    ap (λ (x : CoreParts). map (λ t. t.event) x.taken) c.loop-event.invariant.core
    ∙ events_of_run c.args.setup.now c.args.ticks (take i events) ∙ whole

pub returns-clause-run : goal.returns-clause-run
returns-clause-run c =
    subst (λ (x : CoreParts). IsRun c.args.setup.now c.args.ticks x.taken)
    (sym c.loop-event.invariant.core)
    (is_run c.args.setup.now c.args.ticks (take c.loop-event.event-index c.args.events.now))

pub returns-clause-legal : goal.returns-clause-legal
returns-clause-legal c =
    let s = c.args.setup.now in
    let events = take c.loop-event.event-index c.args.events.now in
    subst IsLegalCore (sym c.loop-event.invariant.core)
    (run_legal s c.args.ticks (run_of s c.args.ticks events) (is_run s c.args.ticks events))

pub returns-clause-rows : goal.returns-clause-rows
returns-clause-rows c =
    let s = c.args.setup.now in
    let events = take c.loop-event.event-index c.args.events.now in
    subst (λ (x : CoreParts). AreRows s (entries_of s (history_in s x.taken).journal))
    (sym c.loop-event.invariant.core)
    (passing s c.args.ticks events c.loop-event.invariant.setup)
