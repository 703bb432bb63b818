use Rattle.std.proofs.Common.{◌≡◌, length}
use Rattle.std.specs.List.{All}
use Rattle.io_caps.specs.declared.limits.TheConstants.{MOST_CHANNELS}
use Rattle.claim_word.proofs.shelf.spare_rows.Given as goal

abbrev pub invariant-loop : goal.invariant-loop
invariant-loop l = record {
  long : length l.rows.items ≡ l.counter;
  wide : All (λ row. length row ≡ MOST_CHANNELS) l.rows.items;
}
