use Rattle.chanmap.proofs.Straight.{few_streams, made_in_order}
use Rattle.chanmap.proofs.commands.from_sdp.setup_from.Goals as goal

pub straight_rows-requires : goal.straight_rows-requires
straight_rows-requires c =
    rw c.as_slice.ensures (few_streams c.args.frames c.args.streams.now c.in-Ok.ensures.within)

pub invariant_of-result : goal.invariant_of-result
invariant_of-result c =
    rw (c.in-Ok.ensures.device, c.in_ok-rows.ensures, c.as_slice.ensures)
    (made_in_order c.args.frames c.args.streams.now c.in-Ok.ensures.within)
