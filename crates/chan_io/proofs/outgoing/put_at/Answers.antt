use Rattle.std.proofs.Common.{length, ◌≤◌, arith}
use Rattle.chan_io.proofs.Sending.{placed}
use Rattle.chan_io.proofs.outgoing.put_at.Goals as goal

pub returns : goal.returns
returns c =
    let within : c.args.at ≤ length c.args.buffer.now = omega (arith, c.requires) in
    rw (c.split_at_mut-room.ensures.front, c.copy_from_slice.ensures.after)
    (placed c.args.buffer.now c.args.bytes.now _ c.args.at within)
