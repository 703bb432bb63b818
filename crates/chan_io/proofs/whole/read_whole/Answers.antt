use Rattle.std.proofs.Common.{◌≡◌, ◌+◌, length, arith, rules}
use Rattle.std.proofs.lemmas.List.{length-take}
use Rattle.chan_io.proofs.Told.{read_long, read_more}
use Rattle.chan_io.proofs.whole.read_whole.Goals as goal

-- The last bytes are those that are too many.
pub returns-then-count-limit-clause-long : goal.returns-then-count-limit-clause-long
returns-then-count-limit-clause-long g c err =
    let i = c.loop-count.invariant in
    let read = c.in-Ok.ensures.bytes in
    let room : length c.read.new.buf ≡ c.min-room.result + 1 = search rules in
    read_long _ _ _ c.loop-count.bytes.items _ c.args.limit i.alike i.read read.1 read.2
    (omega (
      arith,
      read.0,
      room,
      c.if-count-limit.true,
      i.short,
      c.min-room.ensures,
      c.len.ensures,
      c.len-in-loop-count.ensures,
      length-take c.in-Ok.count c.read.new.buf,
    ))

pub returns-then-count-limit-clause-most : goal.returns-then-count-limit-clause-most
returns-then-count-limit-clause-most g c =
    let i = c.loop-count.invariant in
    let read = c.in-Ok.ensures.bytes in
    let room : length c.read.new.buf ≡ c.min-room.result + 1 = search rules in
    read_more _ _ _ c.loop-count.bytes.items _ (c.args.limit + 1) i.alike i.read read.1 read.2
    (omega (
      arith,
      read.0,
      room,
      c.if-count-limit.true,
      i.short,
      c.min-room.ensures,
      c.len.ensures,
      c.len-in-loop-count.ensures,
      length-take c.in-Ok.count c.read.new.buf,
    ))

-- The last bytes are those that found no memory.
pub returns-then-is_err-clause-kept : goal.returns-then-is_err-clause-kept
returns-then-is_err-clause-kept g c err =
    let i = c.loop-count.invariant in
    let read = c.in-Ok.ensures.bytes in
    read_more _ _ _ c.loop-count.bytes.items _ c.args.limit i.alike i.read read.1 read.2
    (omega (
      arith,
      read.0,
      c.if-count-limit.false,
      i.short,
      c.len-in-loop-count.ensures,
      length-take c.in-Ok.count c.read.new.buf,
    ))

pub returns-then-is_err-clause-most : goal.returns-then-is_err-clause-most
returns-then-is_err-clause-most g c =
    let i = c.loop-count.invariant in
    let read = c.in-Ok.ensures.bytes in
    read_more _ _ _ c.loop-count.bytes.items _ (c.args.limit + 1) i.alike i.read read.1 read.2
    (omega (
      arith,
      read.0,
      c.if-count-limit.false,
      i.short,
      c.len-in-loop-count.ensures,
      length-take c.in-Ok.count c.read.new.buf,
    ))
