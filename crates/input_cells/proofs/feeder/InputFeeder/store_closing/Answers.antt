use Rattle.std.proofs.Common.{refl, ℕ, ◌*◌, ◌∙◌, sym, ap, arith}
use Rattle.input_rule.specs.Words.{block_len}
use Rattle.input_cells.proofs.Seats.{some_word}
use Rattle.input_rule.proofs.Steps.{writes_allowed}
use Rattle.input_cells.proofs.Feeding.{closing_may, feeds_on, room_for, seat_id, stored}
use Rattle.input_cells.proofs.feeder.InputFeeder.store_closing.Goals as goal

pub store-requires : goal.store-requires
store-requires c = (
  seat_id _ _ _ _ c.self.view_is c.requires.table ∙ sym (ap (λ z. z.id) c.table.view_is),
  some_word _ _ _ _ c.table.invariant,
  writes_allowed c.table.inside.table.shared.key _ _ _ _ _ c.self.invariant.0.live
      c.self.invariant.0.feeds
      (closing_may _ _ _ _ c.self.view_is c.requires.table c.args.upto c.self.invariant.0.words
      c.requires.rises),
)

pub invariant_of-self : goal.invariant_of-self
invariant_of-self c = (
  feeds_on _ _ _ _ c.self.invariant.0 (ap (λ m. m.0) c.store.ensures.2)
      (closing_may _ _ _ _ c.self.view_is c.requires.table c.args.upto c.self.invariant.0.words
      c.requires.rises),
  ap (λ m. m.1) c.store.ensures.2 ∙ c.self.invariant.1,
)

pub returns : goal.returns
returns c =
    let room = room_for _ _ _ _ c.self.view_is c.requires.table 0 c.self.invariant.0.words
    (let n : ℕ = c.args.table.now.shape.ticks * block_len c.args.table.now.shape in omega arith)
    in
    stored _ _ _ _ c.self.view_is c.requires.table _ _ 0 0 c.args.upto c.store.ensures.0
    (ap (λ m. m.0) c.store.ensures.2) room
    (closing_may _ _ _ _ c.self.view_is c.requires.table c.args.upto c.self.invariant.0.words
    c.requires.rises) refl
