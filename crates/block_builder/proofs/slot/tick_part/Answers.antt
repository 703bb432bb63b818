use Rattle.std.proofs.Common.{◌-◌, ◌*◌, length, drop, arith}
use Rattle.std.proofs.lemmas.List.{length-drop, take_all}
use Rattle.block_builder.proofs.Whole.{is_part}
use Rattle.block_builder.proofs.slot.tick_part.Goals as goal

pub returns : goal.returns
returns c =
    let start = c.tick_place-start.result in
    let behind = (start - c.args.first) * c.frame_len-frame_len.result in
    let rest = drop behind c.args.payload.now in
    is_part c.args.intake c.args.first c.args.tick start c.frame_len-frame_len.result
    c.args.payload.now _
    c.tick_place-start.ensures.value c.frame_len-frame_len.ensures c.if-start-first.false
    (omega (arith, c.if-first-count.false, c.from.ensures, c.if-start-first.false))
    (take_all (length c.args.payload.now - behind) rest
    (omega (arith, length-drop behind c.args.payload.now)))
