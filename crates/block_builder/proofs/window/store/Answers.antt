use Rattle.std.proofs.Common.{◌∙◌, arith}
use Rattle.block_builder.specs.Blocks.{piece_at}
use Rattle.block_builder.proofs.Windows.{tick_at_slot, window_few, put_all}
use Rattle.block_builder.proofs.Touched.{touched, front_untouched}
use Rattle.block_builder.proofs.Fresh.{fresh_slots}
use Rattle.block_builder.proofs.window.store.Goals as goal

pub fill_all-requires-clause-near : goal.fill_all-requires-clause-near
fill_all-requires-clause-near c = λ k d lt.
    let w = c.make_room.ensures.window c.args.given (omega (arith, c.max-from.ensures))
    (omega (arith, c.min-to.ensures)) c.requires.window.0 c.requires.window.1 in
    omega (
      arith,
      tick_at_slot c.args.intake c.requires.window.0 c.args.given
          c.make_room.new.slots.items k d w lt,
      c.requires.numbers.ticks,
    )

pub fill_all-requires-clause-few : goal.fill_all-requires-clause-few
fill_all-requires-clause-few c =
    let w = c.make_room.ensures.window c.args.given (omega (arith, c.max-from.ensures))
    (omega (arith, c.min-to.ensures)) c.requires.window.0 c.requires.window.1 in
    omega (
      arith,
      window_few c.args.intake c.requires.window.0 c.args.given
          c.make_room.new.slots.items w c.requires.given,
      c.requires.numbers.ticks,
    )

pub returns-clause-ok : goal.returns-clause-ok
returns-clause-ok c = λ m w.
    put_all c.args.intake (piece_at c.args.intake c.args.first c.args.payload.now) m c.args.given
    c.make_room.new.slots.items c.fill_all.new.slots.items c.fill_all.ensures.len
    c.fill_all.ensures.put
    (λ tick le lt. touched c.args.intake (piece_at c.args.intake c.args.first c.args.payload.now)
    c.max-from.result c.min-to.result c.args.given tick c.make_room.new.slots.items
    (omega (arith, c.requires.numbers.frames))
    (omega (arith, c.max-from.ensures, c.tick_at.ensures.value))
    (omega (arith, c.min-to.ensures, c.last_tick-last.ensures.value))
    c.in_ok-make_room.ensures.all le lt)
    (c.make_room.ensures.window c.args.given (omega (arith, c.max-from.ensures))
    (omega (arith, c.min-to.ensures)) m w)

pub returns-clause-count : goal.returns-clause-count
returns-clause-count c = λ m w.
    let after = c.make_room.ensures.window c.args.given (omega (arith, c.max-from.ensures))
    (omega (arith, c.min-to.ensures)) m w in
    c.fill_all.ensures.count m c.args.given after
    ∙ fresh_slots c.args.intake (piece_at c.args.intake c.args.first c.args.payload.now) m
    c.args.given c.make_room.new.slots.items
    (λ tick le lt. touched c.args.intake (piece_at c.args.intake c.args.first c.args.payload.now)
    c.max-from.result c.min-to.result c.args.given tick c.make_room.new.slots.items
    (omega (arith, c.requires.numbers.frames))
    (omega (arith, c.max-from.ensures, c.tick_at.ensures.value))
    (omega (arith, c.min-to.ensures, c.last_tick-last.ensures.value))
    c.in_ok-make_room.ensures.all le lt) after

pub returns-clause-small : goal.returns-clause-small
returns-clause-small c =
    let w = c.make_room.ensures.window c.args.given (omega (arith, c.max-from.ensures))
    (omega (arith, c.min-to.ensures)) c.requires.window.0 c.requires.window.1 in
    omega (
      arith,
      window_few c.args.intake c.requires.window.0 c.args.given
          c.make_room.new.slots.items w c.requires.given,
      c.requires.numbers.ticks,
      c.fill_all.ensures.bound,
    )

pub fill_all-requires-clause-before : goal.fill_all-requires-clause-before
fill_all-requires-clause-before c =
    let w = c.make_room.ensures.window c.args.given (omega (arith, c.max-from.ensures))
    (omega (arith, c.min-to.ensures)) c.requires.window.0 c.requires.window.1 in
    front_untouched c.args.intake (piece_at c.args.intake c.args.first c.args.payload.now)
    c.requires.window.0 c.args.given c.max-from.result c.cut_at-start.result
    c.make_room.new.slots.items
    (omega (arith, c.max-from.ensures, c.tick_at.ensures.value)) c.cut_at-start.ensures.within
    c.cut_at-start.ensures.cut w
