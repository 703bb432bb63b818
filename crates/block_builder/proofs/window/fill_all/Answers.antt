use Rattle.std.proofs.Common.{◌<◌, ◌∙◌, sym, length, arith}
use Rattle.std.proofs.lemmas.List.{get_or_default}
use Rattle.block_builder.specs.Blocks.{piece_at}
use Rattle.block_builder.proofs.Partly.{partly_more, partly_begins}
use Rattle.block_builder.proofs.window.fill_all.Goals as goal

pub loop-at-preserved : goal.loop-at-preserved
loop-at-preserved c =
    let here : c.loop-at.at < length c.loop-at.slots.items =
    omega (arith, c.loop-at-test.true, c.len-at-end.ensures, c.loop-at.invariant.long) in
    let within : c.loop-at.at < length c.args.slots.now.items =
    omega (arith, here, c.loop-at.invariant.long) in
    partly_more c.args.intake (piece_at c.args.intake c.args.first c.args.payload.now)
    c.args.slots.now.items c.loop-at.slots.items c.loop-at.at c.loop-at.used c.fill-used.result
    c.index_mut.result.now c.fill-used.new.self
    within (λ d. get_or_default c.loop-at.slots.items c.loop-at.at d c.index_mut.result.now here
    ∙ sym c.index_mut.ensures.value)
    (record {
      same_tick = c.fill-used.ensures.tick;
      slot = c.fill-used.ensures.slot;
      shown =
          c.fill-used.ensures.shown;
    })
    (omega (arith, c.fill-used.ensures.few, c.requires.numbers.frames)) c.fill-used.ensures.count
    c.loop-at.invariant

pub loop-at-init : goal.loop-at-init
loop-at-init c = partly_begins c.args.intake
    (piece_at c.args.intake c.args.first c.args.payload.now) c.args.slots.now.items c.args.start
    c.requires.slots c.requires.before
