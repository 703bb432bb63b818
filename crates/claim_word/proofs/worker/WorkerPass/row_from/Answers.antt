use Rattle.std.proofs.Common.{◌≤◌}
use Rattle.std.proofs.Common.{ℕ, ◌≡◌, ◌<◌, [], length, get_or, refl, sym, ap, ◌∙◌, subst, arith}
use Rattle.std.specs.Prelude.{Some}
use Rattle.std.specs.List.{All, AllZip}
use Rattle.std.proofs.lemmas.List.{get_or_default}
use Rattle.std.proofs.lemmas.List.Elements.{All-weaker}
use Rattle.map_entry.specs.declared.entry.Entry.{Entry}
use Rattle.map_entry.specs.Entry.{selected, IsEntryOk}
use Rattle.map_entry.specs.Row.{channels_of_output, IsRowOf}
use Rattle.map_entry.proofs.Entries.{selected_row}
use Rattle.map_entry.specs.Setup.{HasCells}
use Rattle.claim_rule.specs.declared.view.View.{View}
use Rattle.claim_rule.specs.Claims.{outputs_of, IsFit, IsSound}
use Rattle.map_entry.specs.Tick.{frame_key}
use Rattle.claim_word.specs.Claims.{number_of, pieced_on, IsLast, IsWorker, read_on}
use Rattle.claim_word.specs.Faces.{PassFace}
use Rattle.claim_word.proofs.Claiming.{frugal_of, output_there}
use Rattle.claim_word.proofs.Remembering.{rows_there}
use Rattle.claim_word.proofs.worker.WorkerPass.row_from.Goals as goal
use Rattle.claim_word.proofs.worker.WorkerPass.row_from.Goals.{After-row_known-1}
use Rattle.map_entry.specs.Entry.{IsPiece}
use Rattle.std.specs.List.{All}
use Rattle.claim_word.proofs.Claiming.{worker_pieced, worker_read}
use Rattle.std.specs.Prelude.{vec_capacity}

-- the claim's output has a row, which was read
rows : (c : After-row_known-1)
    → (c.args.claim.now.output < length c.find_from-upto.new.self.parts.items)
    × (length (get_or c.find_from-upto.new.self.parts.items c.args.claim.now.output [])
    ≡ channels_of_output c.self.inside.seat.me.0.plan.setup.device c.args.claim.now.output)
rows c =
    let v : View = c.self.inside.seat.me.0 in let p = c.self.invariant.0 in
    let last = subst (λ (f : PassFace). IsLast f.view c.args.claim.now) (sym c.self.view_is)
    c.requires.last in
    let there : c.args.claim.now.output < outputs_of v.plan =
    let o = last.claim.output in
    let t = output_there v.plan (number_of v.plan c.args.claim.now) p.sound in omega arith in
    let read = c.find_from-upto.ensures.view in
    let now : c.find_from-upto.new.seat.me.0 ≡ pieced_on (read_on v read.heads) read.words =
    ap (λ m. m.0) read.view in
    rows_there v.plan.setup.device c.find_from-upto.new.self.parts.items c.args.claim.now.output
    (subst (λ (w : View). AllZip HasCells w.plan.setup.device.outputs
    c.find_from-upto.new.self.parts.items) now c.find_from-upto.ensures.memory.parts) there

pub index-requires : goal.index-requires
index-requires c = let r = (rows (goal.at.index-requires c).After-row_known-1).0 in
    let ok = c.find_from-upto.new.self.parts.ok in omega arith

pub returns : goal.returns
returns c =
    let at = (goal.at.returns c).After-row_known-1 in let v : View = c.self.inside.seat.me.0 in
    let read = c.find_from-upto.ensures.view in
    let n : ℕ = read.heads in let k : ℕ = read.words in let o : ℕ = c.args.claim.now.output in
    let now : c.find_from-upto.new.seat.me.0 ≡ pieced_on (read_on v n) k = ap (λ m. m.0) read.view
    in
    let same : v ≡ c.args.self.now.view = ap (λ (f : PassFace). f.view) c.self.view_is in
    let row : c.index.result.now ≡ get_or c.find_from-upto.new.self.parts.items o [] =
    c.index.ensures
    ∙ get_or_default c.find_from-upto.new.self.parts.items o c.index.result.now [] (rows at).0 in
    let was : PassFace = record {
      id = c.self.inside.seat.table_id;
      view = v;
      ended = c.self.inside.ended;
    } in
    let is : PassFace = record {
      id = c.find_from-upto.new.seat.table_id;
      view = c.find_from-upto.new.seat.me.0;
      ended = c.self.inside.ended;
    } in
    let pass : is ≡ record was { view = pieced_on (read_on v n) k } =
    (λ j. record {
      id = c.find_from-upto.ensures.seat.0 j;
      view = now j;
      ended = c.self.inside.ended;
    }) in
    let chosen = λ (f : ℕ) (from : c.args.frame ≤ f) (to : f < c.find_from-upto.result).
    (λ j. selected (sym same j).entries o (frame_key c.args.claim.now.tick f))
    ∙ (c.find_from-upto.ensures.row f from to ∙ ap Some (sym row)) in
    let oks : All (IsEntryOk v.plan.setup.device) v.entries =
    All-weaker (IsFit v.plan) (IsEntryOk v.plan.setup.device)
    (λ (e : Entry) (f : IsFit v.plan e). f.ok) v.entries c.self.invariant.0.fits in
    let frames = c.self.invariant.0.span_is.frames_is in
    let begins = c.find_from-upto.ensures.piece.goes_on in (
      (
        refl,
        (λ _. tt),
        record {
          n = n;
          words = k;
          few = subst (λ (u : View). k ≤ channels_of_output u.plan.setup.device o) same read.few;
          id = c.find_from-upto.ensures.seat.0 ∙ ap (λ (f : PassFace). f.id) c.self.view_is;
          plan = ap (λ (u : View). u.plan)
              (now ∙ ap (λ (u : View). pieced_on (read_on u n) k) same);
          pass = pass
              ∙ ap (λ (f : PassFace). record f { view = pieced_on (read_on f.view n) k })
              c.self.view_is;
          frugal = frugal_of c.find_from-upto.new.seat.me.0 c.find_from-upto.new.self
              c.find_from-upto.ensures.memory;
        },
      ),
      record {
        after = tt;
        row = chosen;
        piece = subst (λ (z : View × ℕ). IsPiece z.0.entries o c.args.claim.now.tick c.args.frame
            z.1 c.find_from-upto.result)
            (λ j. (same j, (frames ∙ ap (λ (u : View). u.plan.setup.device.rate.frames) same) j))
            c.find_from-upto.ensures.piece;
        fits = subst (λ (u : View). IsRowOf u.plan.setup.device o c.index.result.now) same
            (selected_row v.plan.setup.device v.entries o
            (frame_key c.args.claim.now.tick c.args.frame) c.index.result.now oks
            (c.find_from-upto.ensures.row c.args.frame (omega arith) begins ∙ ap Some (sym row)));
        sound = subst (λ (u : View). IsSound u.plan) same c.self.invariant.0.sound;
      },
    )

pub invariant_of-self : goal.invariant_of-self
invariant_of-self c =
    let v : View = c.self.inside.seat.me.0 in let read = c.find_from-upto.ensures.view in
    let now : c.find_from-upto.new.seat.me.0 ≡ pieced_on (read_on v read.heads) read.words =
    ap (λ m. m.0) read.view in (
      subst (λ (w : View). IsWorker w c.self.inside.span c.self.inside.claims.items
          (vec_capacity c.self.inside.claims) c.self.inside.ended) (sym now)
          (worker_pieced (read_on v read.heads) c.self.inside.span c.self.inside.claims.items
          (vec_capacity c.self.inside.claims) read.words c.self.inside.ended
          (worker_read v c.self.inside.span c.self.inside.claims.items
          (vec_capacity c.self.inside.claims) read.heads c.self.inside.ended
          c.self.invariant.0)),
      c.find_from-upto.ensures.memory,
      ap (λ m. m.1) read.view ∙ c.self.invariant.2,
    )
