use Rattle.std.proofs.Common.{ℕ, ◌≡◌, ◌<◌, [], length, get_or, refl, sym, ap, ◌∙◌, subst, arith}
use Rattle.std.specs.Prelude.{Some}
use Rattle.std.specs.List.{All, AllZip}
use Rattle.std.proofs.lemmas.List.{get_or_default}
use Rattle.std.proofs.lemmas.List.Elements.{All-weaker}
use Rattle.map_entry.specs.declared.entry.Entry.{Entry}
use Rattle.map_entry.specs.Entry.{selected, IsEntryOk}
use Rattle.map_entry.specs.Row.{channels_of_output, IsRowOf}
use Rattle.map_entry.proofs.Entries.{selected_row}
use Rattle.map_entry.specs.Setup.{HasCells}
use Rattle.claim_rule.specs.declared.view.View.{View}
use Rattle.claim_rule.specs.Claims.{outputs_of, IsFit, IsSound}
use Rattle.map_entry.specs.Tick.{frame_key}
use Rattle.claim_word.specs.Claims.{number_of, IsLast, IsWorker, read_on}
use Rattle.std.specs.Prelude.{vec_capacity}
use Rattle.claim_word.specs.Faces.{PassFace}
use Rattle.claim_word.proofs.Claiming.{frugal_of, output_there, worker_read}
use Rattle.claim_word.proofs.Remembering.{rows_there}
use Rattle.claim_word.proofs.worker.WorkerPass.row.Goals as goal
use Rattle.claim_word.proofs.worker.WorkerPass.row.Goals.{After-find}

-- the claim's output has a row, which was read
rows : (c : After-find) → (c.args.claim.now.output < length c.find.new.self.rows.items)
    × (length (get_or c.find.new.self.rows.items c.args.claim.now.output []) ≡ channels_of_output
    c.self.inside.seat.me.0.plan.setup.device c.args.claim.now.output)
rows c =
    let v : View = c.self.inside.seat.me.0 in let p = c.self.invariant.0 in
    let last = subst (λ (f : PassFace). IsLast f.view c.args.claim.now) (sym c.self.view_is)
    c.requires.last in
    let there : c.args.claim.now.output < outputs_of v.plan =
    let o = last.claim.output in
    let t = output_there v.plan (number_of v.plan c.args.claim.now) p.sound in omega arith in
    let now : c.find.new.seat.me.0 ≡ read_on v c.find.ensures.view.0 =
    ap (λ m. m.0) c.find.ensures.view.1 in
    rows_there v.plan.setup.device c.find.new.self.rows.items c.args.claim.now.output
    (subst (λ (w : View). AllZip HasCells w.plan.setup.device.outputs c.find.new.self.rows.items)
    now c.find.ensures.memory.rows) there

pub index-requires : goal.index-requires
index-requires c = let r = (rows (goal.at.index-requires c).After-find).0 in
    let ok = c.find.new.self.rows.ok in omega arith

pub returns : goal.returns
returns c =
    let at = (goal.at.returns c).After-find in let v : View = c.self.inside.seat.me.0 in
    let n : ℕ = c.find.ensures.view.0 in let o : ℕ = c.args.claim.now.output in
    let now : c.find.new.seat.me.0 ≡ read_on v n = ap (λ m. m.0) c.find.ensures.view.1 in
    let same : v ≡ c.args.self.now.view = ap (λ (f : PassFace). f.view) c.self.view_is in
    let row : c.index.result.now ≡ get_or c.find.new.self.rows.items o [] =
    c.index.ensures ∙ get_or_default c.find.new.self.rows.items o c.index.result.now [] (rows at).0
    in
    let was : PassFace = record {
      id = c.self.inside.seat.table_id;
      view = v;
      ended = c.self.inside.ended;
    } in
    let is : PassFace = record {
      id = c.find.new.seat.table_id;
      view = c.find.new.seat.me.0;
      ended = c.self.inside.ended;
    } in
    let pass : is ≡ record was { view = read_on v n } =
    (λ k. record { id = c.find.ensures.seat.0 k; view = now k; ended = c.self.inside.ended }) in
    let chosen : selected c.args.self.now.view.entries o (frame_key c.args.claim.now.tick 0) ≡ Some
    c.index.result.now =
    (λ k. selected (sym same k).entries o (frame_key c.args.claim.now.tick 0))
    ∙ (c.find.ensures.row ∙ ap Some (sym row)) in
    let oks : All (IsEntryOk v.plan.setup.device) v.entries =
    All-weaker (IsFit v.plan) (IsEntryOk v.plan.setup.device)
    (λ (e : Entry) (f : IsFit v.plan e). f.ok) v.entries c.self.invariant.0.fits in (
      (
        refl,
        (λ _. tt),
        record {
          n = n;
          id = c.find.ensures.seat.0 ∙ ap (λ (f : PassFace). f.id) c.self.view_is;
          plan = ap (λ (u : View). u.plan) (now ∙ ap (λ (u : View). read_on u n) same);
          pass = pass ∙ ap (λ (f : PassFace). record f { view = read_on f.view n }) c.self.view_is;
          frugal = frugal_of c.find.new.seat.me.0 c.find.new.self c.find.ensures.memory;
        },
      ),
      record {
        after = tt;
        row = chosen;
        fits = subst (λ (u : View). IsRowOf u.plan.setup.device o c.index.result.now) same
            (selected_row v.plan.setup.device v.entries o (frame_key c.args.claim.now.tick 0)
            c.index.result.now oks (c.find.ensures.row ∙ ap Some (sym row)));
        sound = subst (λ (u : View). IsSound u.plan) same c.self.invariant.0.sound;
      },
    )

pub invariant_of-self : goal.invariant_of-self
invariant_of-self c =
    let v : View = c.self.inside.seat.me.0 in let read = c.find.ensures.view in
    let now : c.find.new.seat.me.0 ≡ read_on v read.0 = ap (λ m. m.0) read.1 in (
      subst (λ (w : View). IsWorker w c.self.inside.span c.self.inside.claims.items
          (vec_capacity c.self.inside.claims) c.self.inside.ended) (sym now)
          (worker_read v c.self.inside.span c.self.inside.claims.items
          (vec_capacity c.self.inside.claims) read.0 c.self.inside.ended c.self.invariant.0),
      c.find.ensures.memory,
      ap (λ m. m.1) read.1 ∙ c.self.invariant.2,
    )
