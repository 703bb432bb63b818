use Rattle.std.proofs.Common.{◌≡◌, length, slice_index_or}
use Rattle.map_entry.specs.declared.entry.Entry.{Entry}
use Rattle.claim_word.specs.Claims.{pieced_on}
use Rattle.claim_word.proofs.Reading.{AreSame}
use Rattle.claim_word.proofs.read.read_piece.Given as goal

abbrev pub invariant-loop-at : goal.invariant-loop-at
invariant-loop-at l = record {
  table : l.seat.table_id ≡ l.fn.seat.table_id;
  id : l.seat.id ≡ l.fn.seat.id;
  me : l.seat.me ≡ (pieced_on l.fn.seat.me.0 l.at, l.fn.seat.me.1);
  long : length l.row ≡ length l.fn.row;
  same : (d : Entry) → AreSame l.row (slice_index_or l.fn.seat.me.0.entries l.fn.place d).row l.at;
}
