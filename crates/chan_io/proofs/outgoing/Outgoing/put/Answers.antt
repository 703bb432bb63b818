use Rattle.std.proofs.Common.{length, ◌≤◌, rules}
use Rattle.std.proofs.lemmas.List.{places, with_items_is}
use Rattle.chan_io.proofs.Sending.{longer_front, sent_all, sent_front, sent_later}
use Rattle.chan_io.proofs.outgoing.Outgoing.put.Goals as goal

pub returns-in_err-flush-clause-prefix : goal.returns-in_err-flush-clause-prefix
returns-in_err-flush-clause-prefix g c start text h =
    longer_front start _ text c.args.bytes.now (c.in_err-flush.ensures.prefix start text h)

pub returns-in_err-write_whole-clause-prefix : goal.returns-in_err-write_whole-clause-prefix
returns-in_err-write_whole-clause-prefix g c start text h =
    let flushed = rw c.in_ok-flush.ensures.none at (c.in_ok-flush.ensures.sent start text h) in
    sent_front start _ _ _ _ (sent_later start _ _ text c.args.bytes.now flushed)
    c.in_err-write_whole.ensures.prefix

pub returns-then-bytes-len-clause-sent : goal.returns-then-bytes-len-clause-sent
returns-then-bytes-len-clause-sent g c start text h =
    let flushed = rw c.in_ok-flush.ensures.none at (c.in_ok-flush.ensures.sent start text h) in
    rw c.in_ok-flush.ensures.none
    (sent_all start _ _ _ _ (sent_later start _ _ text c.args.bytes.now flushed)
    c.in_ok-write_whole.ensures.prefix.alike c.in_ok-write_whole.ensures.ok)

pub returns-then-bytes-len-clause-prefix : goal.returns-then-bytes-len-clause-prefix
returns-then-bytes-len-clause-prefix g c start text h =
    let flushed = rw c.in_ok-flush.ensures.none at (c.in_ok-flush.ensures.sent start text h) in
    sent_front start _ _ _ _ (sent_later start _ _ text c.args.bytes.now flushed)
    c.in_ok-write_whole.ensures.prefix

pub returns-in_err-make_room-clause-prefix : goal.returns-in_err-make_room-clause-prefix
returns-in_err-make_room-clause-prefix g c start text h =
    longer_front start _ text c.args.bytes.now (c.in_err-make_room.ensures.prefix start text h)

pub returns-clause-sent : goal.returns-clause-sent
returns-clause-sent g c start text h =
    let out = c.make_room.new.self in
    let bytes = c.args.bytes.now in
    let within : out.waiting ≤ length out.buffer.items = search (rules, places) in
    let sent = sent_later start _ _ text bytes (c.in_ok-make_room.ensures.sent start text h) in
    rw (with_items_is out.buffer c.put_at.new.buffer (search (rules, places)), c.put_at.ensures, c.deref_mut.ensures.value) sent

pub returns-clause-prefix : goal.returns-clause-prefix
returns-clause-prefix g c start text h =
    longer_front start _ text c.args.bytes.now (c.in_ok-make_room.ensures.prefix start text h)
