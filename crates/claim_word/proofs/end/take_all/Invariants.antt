use Rattle.std.proofs.Common.{◌≡◌, ◌+◌, ◌++◌, true, map, length}
use Rattle.std.specs.Prelude.{vec_len, vec_capacity}
use Rattle.std.specs.List.{list_any}
use Rattle.claim_word.specs.Claims.{HasOver}
use Rattle.claim_word.specs.Endings.{claims_by, draws_in, with_workers}
use Rattle.claim_word.specs.Faces.{PassFace}
use Rattle.claim_word.proofs.end.take_all.Given as goal

abbrev pub invariant-loop-pass : goal.invariant-loop-pass
invariant-loop-pass l = record {
  can : (goal.iterator-loop-pass).can_next l.pass-iterator;
  finite : (goal.iterator-loop-pass).is_finite l.pass-iterator;
  split : l.yielded ++ l.pass-iterator.rest.items ≡ l.fn.workers.items;
  table : l.seat.table_id ≡ l.fn.seat.table_id;
  id : l.seat.id ≡ l.fn.seat.id;
  slots : l.seat.me.1 ≡ l.fn.seat.me.1;
  view : l.seat.me.0 ≡ with_workers l.fn.seat.me.0 l.yielded;
  lists : l.lists.items ≡ l.fn.lists.items ++ map (claims_by l.fn.table.plan) l.yielded;
  room : vec_capacity l.lists ≡ vec_capacity l.fn.lists;
  count : vec_len l.lists ≡ vec_len l.fn.lists + length l.yielded;
  over : list_any (λ (w : PassFace). w.ended) l.yielded ≡ true
      → HasOver l.fn.table.plan.packets (draws_in l.yielded);
}
