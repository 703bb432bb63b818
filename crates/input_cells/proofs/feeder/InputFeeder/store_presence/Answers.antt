use Rattle.std.proofs.Common.{ℕ, ◌≡◌, ◌<◌, ◌∙◌, sym, ap, subst}
use Rattle.input_rule.specs.declared.view.Shape.{Shape}
use Rattle.input_rule.specs.Words.{presence, words_len}
use Rattle.input_rule.proofs.Later.{presence_inside}
use Rattle.input_rule.proofs.Steps.{writes_allowed}
use Rattle.input_cells.specs.Faces.{InputFace}
use Rattle.input_cells.proofs.Feeding.{feeds_on, pass_shape, presence_may, room_for, seat_id}
use Rattle.input_cells.proofs.Feeding.{stored}
use Rattle.input_cells.proofs.feeder.InputFeeder.store_presence.Goals as goal

pub store-requires : goal.store-requires
store-requires c = (
  seat_id _ _ _ _ c.self.view_is c.requires.table ∙ sym (ap (λ z. z.id) c.table.view_is),
  subst (λ (z : InputFace). c.presence_word-word.result < z.id.words) (sym c.table.view_is)
      c.presence_word-word.ensures.within,
  writes_allowed c.table.inside.table.shared.key _ _ _ _ _ c.self.invariant.0.live
      c.self.invariant.0.feeds
      (presence_may _ _ _ _ c.self.view_is c.requires.table c.args.tick _ c.self.invariant.0.words
      c.requires.tick c.requires.open c.presence_word-word.ensures.word),
)

pub invariant_of-self : goal.invariant_of-self
invariant_of-self c = (
  feeds_on _ _ _ _ c.self.invariant.0 (ap (λ m. m.0) c.store.ensures.2)
      (presence_may _ _ _ _ c.self.view_is c.requires.table c.args.tick _ c.self.invariant.0.words
      c.requires.tick c.requires.open c.presence_word-word.ensures.word),
  ap (λ m. m.1) c.store.ensures.2 ∙ c.self.invariant.1,
)

pub returns : goal.returns
returns c =
    let word : c.presence_word-word.result ≡ presence c.args.self.now.view.shape c.args.tick =
    c.presence_word-word.ensures.word
    ∙ ap (λ (z : Shape). presence z c.args.tick)
    (pass_shape _ _ _ _ c.self.view_is c.requires.table) in
    let room = room_for _ _ _ _ c.self.view_is c.requires.table c.presence_word-word.result
    c.self.invariant.0.words
    (subst (λ (i : ℕ). i < words_len c.args.table.now.shape)
    (sym c.presence_word-word.ensures.word)
    (presence_inside c.args.table.now.shape c.args.tick c.requires.tick)) in
    stored _ _ _ _ c.self.view_is c.requires.table _ _ _ c.presence_word-word.result 1
    c.store.ensures.0 (ap (λ m. m.0) c.store.ensures.2) room
    (presence_may _ _ _ _ c.self.view_is c.requires.table c.args.tick _ c.self.invariant.0.words
    c.requires.tick c.requires.open c.presence_word-word.ensures.word) word
