use Rattle.std.proofs.Common.{◌*◌}
use Rattle.std.proofs.Common.{◌≡◌, ◌-◌, ◌≤◌, map}
use Rattle.std.specs.Prelude.{vec_len, vec_capacity}
use Rattle.claim_rule.specs.Views.{Begins}
use Rattle.claim_rule.specs.Words.{head_words}
use Rattle.claim_word.specs.Claims.{head_of, read_on}
use Rattle.claim_word.proofs.memory.read_heads.Given as goal

abbrev pub invariant-loop-seat : goal.invariant-loop-seat
invariant-loop-seat l = record {
  table : l.seat.table_id ≡ l.fn.seat.table_id;
  id : l.seat.id ≡ l.fn.seat.id;
  me : l.seat.me ≡ (
    read_on l.fn.seat.me.0 (head_words * (vec_len l.heads - vec_len l.fn.heads)),
    l.fn.seat.me.1,
  );
  more : vec_len l.fn.heads ≤ vec_len l.heads;
  heads : Begins l.heads.items (map head_of l.fn.seat.me.0.entries);
  room : vec_capacity l.heads ≡ vec_capacity l.fn.heads;
}

abbrev pub decreases-loop-seat : goal.decreases-loop-seat
decreases-loop-seat l = l.fn.entries - vec_len l.heads
