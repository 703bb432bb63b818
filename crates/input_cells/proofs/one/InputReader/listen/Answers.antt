use Rattle.std.proofs.Common.{◌≡◌, ◌<◌, ◌∙◌, sym, ap, subst, arith, w32}
use Rattle.std.proofs.Common.{to_z, of_z}
use Rattle.input_rule.specs.declared.view.Shape.{Shape}
use Rattle.input_rule.specs.declared.view.View.{View}
use Rattle.input_rule.specs.Views.{HasSeen, listened}
use Rattle.input_rule.specs.Plays.{sample_place, sample_tick}
use Rattle.std.specs.List.{Contains}
use Rattle.input_rule.specs.Words.{HasTick, block_len, sample_word, words_len}
use Rattle.input_rule.proofs.Later.{sample_inside}
use Rattle.input_rule.proofs.Steps.{hears_allowed}
use Rattle.input_cells.proofs.Seats.{listened_at, place_back, tick_back, whole}
use Rattle.input_cells.specs.Faces.{InputFace, SeatFace}
use Rattle.input_cells.proofs.one.InputReader.listen.Goals as goal

pub load-requires : goal.load-requires
load-requires c =
    let shape : c.args.table.now.shape ≡ c.self.inside.seat.me.0.shape =
    ap (λ (z : InputFace). z.shape) (sym c.requires.table)
    ∙ ap (λ z. z.view.shape) (sym c.self.view_is) in
    let inside = subst (λ (z : Shape). HasTick z c.args.tick) shape c.requires.tick in
    let below = subst (λ (z : Shape). c.args.place < block_len z) shape c.requires.place in
    let words : c.args.table.now.id.words ≡ words_len c.args.table.now.shape =
    subst (λ (z : InputFace). z.id.words ≡ words_len z.shape) c.table.view_is
    c.table.invariant.words_are in (
      ap (λ z. z.id) c.self.view_is
          ∙ (ap (λ (z : InputFace). z.id) c.requires.table ∙ sym (ap (λ z. z.id) c.table.view_is)),
      (let lt = sample_inside c.args.table.now.shape c.args.tick c.args.place c.requires.tick
          c.requires.place in let id = ap (λ (z : InputFace). z.id.words) c.table.view_is in
          omega arith),
      hears_allowed c.table.inside.table.shared.key _ _ _ _ c.args.tick c.args.place
          c.self.invariant.0 inside below
          (c.requires.word ∙ ap (λ (z : Shape). sample_word z c.args.tick c.args.place) shape)
          (subst (λ (z : SeatFace). HasSeen z.view c.args.tick) (sym c.self.view_is)
          c.requires.seen),
    )

pub returns-clause-heard : goal.returns-clause-heard
returns-clause-heard c =
    let v : View = c.self.inside.seat.me.0 in
    let shape : c.args.table.now.shape ≡ v.shape =
    ap (λ (z : InputFace). z.shape) (sym c.requires.table)
    ∙ ap (λ z. z.view.shape) (sym c.self.view_is) in
    let inside = subst (λ (z : Shape). HasTick z c.args.tick) shape c.requires.tick in
    let below = subst (λ (z : Shape). c.args.place < block_len z) shape c.requires.place in
    let word = c.requires.word ∙ ap (λ (z : Shape). sample_word z c.args.tick c.args.place) shape
    in
    let heard = listened_at v c.args.tick c.args.place _ _ (to_z w32 (of_z w32 c.sample_of.result))
    inside below word (sym c.sample_of.ensures ∙ sym (whole _ c.sample_of.type_inv)) in
    λ k. record {
      id = (c.load.ensures.0 ∙ ap (λ z. z.id) c.self.view_is) k;
      view = (ap (λ m. m.0) c.load.ensures.2.0
          ∙ (heard ∙ ap
          (λ z. listened z.view c.args.tick c.args.place (to_z w32 (of_z w32 c.sample_of.result)))
          c.self.view_is)) k;
    }

pub returns-clause-same : goal.returns-clause-same
returns-clause-same c h among its_tick its_place =
    let v : View = c.self.inside.seat.me.0 in
    let shape : c.args.table.now.shape ≡ v.shape =
    ap (λ (z : InputFace). z.shape) (sym c.requires.table)
    ∙ ap (λ z. z.view.shape) (sym c.self.view_is) in
    let inside = subst (λ (z : Shape). HasTick z c.args.tick) shape c.requires.tick in
    let below = subst (λ (z : Shape). c.args.place < block_len z) shape c.requires.place in
    let word = c.requires.word ∙ ap (λ (z : Shape). sample_word z c.args.tick c.args.place) shape
    in
    let mine = subst (λ (z : SeatFace). Contains z.view.heard h) (sym c.self.view_is) among in
    c.load.ensures.2.2 h mine
    (its_tick ∙ sym (ap (sample_tick v.shape) word
    ∙ tick_back v.shape c.args.tick c.args.place inside below))
    (its_place ∙ sym (ap (sample_place v.shape) word
    ∙ place_back v.shape c.args.tick c.args.place below))
    ∙ (sym c.sample_of.ensures ∙ sym (whole _ c.sample_of.type_inv))
