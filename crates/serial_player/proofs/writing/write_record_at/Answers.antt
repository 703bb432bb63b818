use Rattle.std.proofs.Common.{◌≡◌, ◌≤◌, length, arith, rules}
use Rattle.chan_io.proofs.Sending.{placed}
use Rattle.serial_player.proofs.writing.write_record_at.Goals as goal

pub returns : goal.returns
returns c =
    let buffer = c.args.buffer.now in
    let at = c.args.at in
    let made = c.write_record.new.out in
    let within : at ≤ length buffer = omega (arith, c.requires.room) in
    let long : c.args.len ≡ length made = search rules in (
      made,
      c.write_record.ensures,
      rw (c.split_at_mut-room.ensures.front, long) (placed buffer made _ at within),
    )
