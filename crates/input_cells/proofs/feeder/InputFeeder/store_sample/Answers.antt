use Rattle.std.proofs.Common.{ℕ, ◌≡◌, ◌<◌, ◌∙◌, sym, ap, subst, arith}
use Rattle.input_rule.specs.declared.view.Shape.{Shape}
use Rattle.std.proofs.Common.{w32}
use Rattle.std.proofs.lemmas.Int.{to_z-of_z}
use Rattle.input_rule.specs.Words.{sample_word, words_len}
use Rattle.input_rule.proofs.Later.{sample_inside}
use Rattle.input_rule.proofs.Steps.{writes_allowed}
use Rattle.input_cells.specs.Faces.{InputFace}
use Rattle.input_cells.proofs.Feeding.{feeds_on, pass_shape, room_for, sample_may, seat_id, stored}
use Rattle.input_cells.proofs.feeder.InputFeeder.store_sample.Goals as goal

pub store-requires : goal.store-requires
store-requires c = (
  seat_id _ _ _ _ c.self.view_is c.requires.table ∙ sym (ap (λ z. z.id) c.table.view_is),
  (let lt = sample_inside c.args.table.now.shape c.args.tick c.args.place c.requires.tick
      c.requires.place in
      let id = ap (λ (z : InputFace). z.id.words) c.table.view_is in
      let words = subst (λ (z : InputFace). z.id.words ≡ words_len z.shape) c.table.view_is
      c.table.invariant.words_are in omega arith),
  writes_allowed c.table.inside.table.shared.key _ _ _ _ _ c.self.invariant.0.live
      c.self.invariant.0.feeds
      (sample_may _ _ _ _ c.self.view_is c.requires.table c.args.tick c.args.place _ _
      c.self.invariant.0.words c.requires.tick c.requires.place c.requires.absent
      c.word_of.ensures.small c.requires.word),
)

pub invariant_of-self : goal.invariant_of-self
invariant_of-self c = (
  feeds_on _ _ _ _ c.self.invariant.0 (ap (λ m. m.0) c.store.ensures.2)
      (sample_may _ _ _ _ c.self.view_is c.requires.table c.args.tick c.args.place _ _
      c.self.invariant.0.words c.requires.tick c.requires.place c.requires.absent
      c.word_of.ensures.small c.requires.word),
  ap (λ m. m.1) c.store.ensures.2 ∙ c.self.invariant.1,
)

pub returns : goal.returns
returns c =
    let room = room_for _ _ _ _ c.self.view_is c.requires.table c.args.word
    c.self.invariant.0.words
    (subst (λ (i : ℕ). i < words_len c.args.table.now.shape) (sym c.requires.word)
    (sample_inside c.args.table.now.shape c.args.tick c.args.place c.requires.tick
    c.requires.place)) in
    record {
      word = c.word_of.result;
      spells = c.word_of.ensures.spells ∙ to_z-of_z w32 c.args.sample c.ranges.sample;
      stored = stored _ _ _ _ c.self.view_is c.requires.table _ _ _ c.args.word c.word_of.result
          c.store.ensures.0 (ap (λ m. m.0) c.store.ensures.2) room
          (sample_may _ _ _ _ c.self.view_is c.requires.table c.args.tick c.args.place _ _
          c.self.invariant.0.words c.requires.tick c.requires.place c.requires.absent
          c.word_of.ensures.small c.requires.word)
          (c.requires.word
          ∙ ap (λ (z : Shape). sample_word z c.args.tick c.args.place)
          (pass_shape _ _ _ _ c.self.view_is c.requires.table));
    }
