use Rattle.std.proofs.Common.{◌≡◌, ◌<◌, ◌∙◌, sym, ap, subst}
use Rattle.input_rule.specs.declared.view.Shape.{Shape}
use Rattle.input_rule.specs.declared.view.View.{View}
use Rattle.input_rule.specs.Views.{HasSeen}
use Rattle.input_cells.proofs.Growing.{looked_seen}
use Rattle.input_cells.proofs.Seats.{looked_at}
use Rattle.input_rule.specs.Words.{HasTick, presence}
use Rattle.input_rule.proofs.Steps.{looks_allowed}
use Rattle.input_cells.specs.Faces.{InputFace}
use Rattle.input_cells.proofs.one.InputReader.look.Goals as goal

pub load-requires : goal.load-requires
load-requires c =
    let shape : c.args.table.now.shape ≡ c.self.inside.seat.me.0.shape =
    ap (λ (z : InputFace). z.shape) (sym c.requires.table)
    ∙ ap (λ z. z.view.shape) (sym c.self.view_is) in
    let inside = subst (λ (z : Shape). HasTick z c.args.tick) shape c.requires.tick in (
      ap (λ z. z.id) c.self.view_is
          ∙ (ap (λ (z : InputFace). z.id) c.requires.table ∙ sym (ap (λ z. z.id) c.table.view_is)),
      subst (λ (z : InputFace). c.presence_word-word.result < z.id.words) (sym c.table.view_is)
          c.presence_word-word.ensures.within,
      looks_allowed c.table.inside.table.shared.key _ _ _ _ c.args.tick c.self.invariant.0 inside
          (c.presence_word-word.ensures.word ∙ ap (λ (z : Shape). presence z c.args.tick) shape),
    )

pub returns-clause-saw : goal.returns-clause-saw
returns-clause-saw c there =
    let v : View = c.self.inside.seat.me.0 in
    let shape : c.args.table.now.shape ≡ v.shape =
    ap (λ (z : InputFace). z.shape) (sym c.requires.table)
    ∙ ap (λ z. z.view.shape) (sym c.self.view_is) in
    let inside = subst (λ (z : Shape). HasTick z c.args.tick) shape c.requires.tick in
    let word = c.presence_word-word.ensures.word ∙ ap (λ (z : Shape). presence z c.args.tick) shape
    in
    subst (λ (z : View). HasSeen z c.args.tick)
    (sym (ap (λ m. m.0) c.load.ensures.2.0 ∙ looked_at v c.args.tick _ _ inside word))
    (looked_seen v c.args.tick _ there)
