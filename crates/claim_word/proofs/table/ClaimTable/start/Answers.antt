use Rattle.std.proofs.Common.{ℕ, ◌≡◌, ◌*◌, List, ◌++◌, length, refl, sym, ap, ◌∙◌, subst}
use Rattle.map_entry.specs.declared.entry.Entry.{Entry}
use Rattle.io_caps.specs.declared.rate.Rate.{Rate}
use Rattle.map_entry.specs.Setup.{SetupParts, IsSetup, HasCells}
use Rattle.claim_rule.specs.declared.plan.Start.{Start}
use Rattle.claim_rule.specs.declared.view.View.{View}
use Rattle.claim_rule.specs.Rule.{Opens}
use Rattle.claim_rule.proofs.Ends.{opens_kept}
use Rattle.std.specs.List.{AllZip}
use Rattle.claim_word.specs.Faces.{IsSpan}
use Rattle.claim_word.specs.Passes.{IsPublisher}
use Rattle.claim_word.specs.Starts.{planned}
use Rattle.claim_word.proofs.Starting.{IsStartOf, may_open, opener_keeps, planned_listed}
use Rattle.claim_word.proofs.Starting.{planned_sound, planned_wide}
use Rattle.claim_word.proofs.table.ClaimTable.start.Goals as goal
use Rattle.claim_word.proofs.table.ClaimTable.start.Goals.{After-of-3, After-outputs-outputs}

-- the setup
valid : (c : After-outputs-outputs) → IsSetup c.args.setup.now
valid c = subst IsSetup c.setup.view_is c.setup.invariant

outputs : (c : After-outputs-outputs)
    → c.outputs-outputs.result ≡ length c.args.setup.now.device.outputs
outputs c = c.outputs-outputs.ensures.value ∙ ap (λ (z : SetupParts). length z.device.outputs)
    c.setup.view_is

pub words_of-requires-clause-wide : goal.words_of-requires-clause-wide
words_of-requires-clause-wide c =
    let r = c.requires in
    let at = (goal.at.words_of-requires-clause-wide c).After-outputs-outputs in
    planned_wide c.args.setup.now c.args.from c.args.ticks c.args.workers c.args.base.now (valid at)
    r.ticks r.workers r.claims r.base

-- what the table starts with
begun : (c : After-of-3) → Start
begun c = record {
  setup = c.of.result;
  from = c.args.from;
  packets = c.args.ticks * c.outputs-outputs.result;
  workers = c.args.workers;
  entries = c.of-2.result;
  words = c.of-3.result;
}

begun_is : (c : After-of-3)
    → IsStartOf (begun c) c.args.setup.now c.args.from c.args.ticks c.args.workers c.args.base.now
    c.in_ok-words.words.items
unfolding begun
begun_is c =
    let n = c.outputs-outputs.ensures.value ∙ ap (λ (z : SetupParts). length z.device.outputs)
    c.setup.view_is in record {
      plan_is = (λ k. record {
        setup = c.of.ensures k;
        from = c.args.from;
        packets = c.args.ticks * n k;
        workers = c.args.workers;
        given = length (c.of-2.ensures k);
      });
      workers_is = refl;
      entries_are = c.of-2.ensures;
      words_are = ap (λ x. x.items) c.of-3.ensures;
    }

pub of_words-requires : goal.of_words-requires
unfolding begun
of_words-requires c =
    let at = (goal.at.of_words-requires c).After-of-3 in let r = c.requires in
    let s : SetupParts = c.args.setup.now in let base : List Entry = c.args.base.now in
    let from : ℕ = c.args.from in let ticks : ℕ = c.args.ticks in
    let workers : ℕ = c.args.workers in
    let set_up = valid (goal.at.of_words-requires c).After-outputs-outputs in
    opens_kept (begun at) c.as_slice-2.result.now
    (subst (Opens (begun at)) (sym c.as_slice-2.ensures.value)
    (may_open (begun at) s from ticks workers base c.in_ok-words.words.items (begun_is at)
    (planned_sound s from ticks workers base set_up r.ticks r.workers r.claims r.base)
    (planned_listed s from ticks workers base set_up r.ticks r.workers r.claims r.base)
    c.in_ok-words.ensures.laid))

pub invariant_of-publisher : goal.invariant_of-publisher
unfolding begun
invariant_of-publisher c =
    let at = (goal.at.invariant_of-publisher c).After-of-3 in let r = c.requires in
    let s : SetupParts = c.args.setup.now in let base : List Entry = c.args.base.now in
    let from : ℕ = c.args.from in let ticks : ℕ = c.args.ticks in
    let workers : ℕ = c.args.workers in
    let before = (goal.at.invariant_of-publisher c).After-outputs-outputs in
    let set_up = valid before in let n = outputs before in let made = c.in_ok-table.ensures.4 in
    let span : IsSpan (planned s from ticks workers base)
    (record {
      base = c.base.result;
      outputs = c.outputs-outputs.result;
      from = from;
      packets = ticks * c.outputs-outputs.result;
      frames = c.rate.result.frames;
    }) = record {
      base_is = c.base.ensures.value ∙ ap (λ (z : SetupParts). z.device.base) c.setup.view_is;
      outputs_is = n;
      from_is = refl;
      packets_is = ap (λ (k : ℕ). ticks * k) n;
      frames_is = ap (λ (r : Rate). r.frames) c.rate.ensures.value
          ∙ ap (λ (z : SetupParts). z.device.rate.frames) c.setup.view_is;
    } in
    let shelf : c.keep_all.new.self ≡ base = c.keep_all.ensures
    ∙ (λ k. c.in_ok-shelf.ensures k ++ c.as_slice.ensures k) in
    let rows : c.in_ok-rows.rows ≡ s.rows = c.in_ok-rows.ensures
    ∙ ap (λ (z : SetupParts). z.rows) c.setup.view_is in (
      subst (λ (v : View).
          IsPublisher v (record {
            base = c.base.result;
            outputs = c.outputs-outputs.result;
            from = from;
            packets = ticks * c.outputs-outputs.result;
            frames = c.rate.result.frames;
          }) 0 0 c.keep_all.new.self
          c.in_ok-rows.rows)
          (sym (ap (λ m. m.0) made))
          (opener_keeps (begun at) s from ticks workers base c.in_ok-words.words.items _
          c.keep_all.new.self c.in_ok-rows.rows (begun_is at)
          (planned_sound s from ticks workers base set_up r.ticks r.workers r.claims r.base)
          (planned_listed s from ticks workers base set_up r.ticks r.workers r.claims r.base)
          c.in_ok-words.ensures.laid c.in_ok-words.ensures.long r.workers span shelf
          (subst (AllZip HasCells s.device.outputs) (sym rows) set_up.count)),
      ap (λ m. m.1) made,
      sym (ap (λ m. m.0.plan.workers) made),
      (c.in_ok-lists.ensures.items, c.in_ok-lists.ensures.capacity),
    )
