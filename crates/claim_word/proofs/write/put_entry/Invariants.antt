use Rattle.std.proofs.Common.{◌≡◌, ◌+◌}
use Rattle.claim_word.proofs.Writing.{WroteSome}
use Rattle.claim_word.proofs.write.put_entry.Given as goal

abbrev pub invariant-loop-channel : goal.invariant-loop-channel
invariant-loop-channel l = record {
  table : l.seat.table_id ≡ l.fn.seat.table_id;
  id : l.seat.id ≡ l.fn.seat.id;
  slots : l.seat.me.1 ≡ l.fn.seat.me.1;
  wrote : WroteSome l.fn.seat.me.0 l.seat.me.0 l.fn.place l.fn.entry (2 + l.channel);
}
