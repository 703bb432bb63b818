use Rattle.std.proofs.Common.{◌≡◌, ◌++◌}
use Rattle.claim_word.specs.Endings.{with_clients}
use Rattle.claim_word.proofs.end.hear_all.Given as goal

abbrev pub invariant-loop-pass : goal.invariant-loop-pass
invariant-loop-pass l = record {
  can : (goal.iterator-loop-pass).can_next l.pass-iterator;
  finite : (goal.iterator-loop-pass).is_finite l.pass-iterator;
  split : l.yielded ++ l.pass-iterator.rest.items ≡ l.fn.clients.items;
  table : l.seat.table_id ≡ l.fn.seat.table_id;
  id : l.seat.id ≡ l.fn.seat.id;
  slots : l.seat.me.1 ≡ l.fn.seat.me.1;
  view : l.seat.me.0 ≡ with_clients l.fn.seat.me.0 l.yielded;
}
