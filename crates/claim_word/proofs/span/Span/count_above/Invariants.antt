use Rattle.std.proofs.Common.{◌≡◌, ◌≤◌, take}
use Rattle.std.specs.Prelude.{count_by, nat_lt, max}
use Rattle.map_entry.specs.Tick.{first_tick}
use Rattle.claim_word.proofs.span.Span.count_above.Given as goal

abbrev pub invariant-loop-entry : goal.invariant-loop-entry
invariant-loop-entry l = record {
  value : l.above ≡ count_by
      (λ e. nat_lt (first_tick l.fn.self.base l.fn.self.outputs (max l.fn.self.from e.at)) e.tick)
      (take l.entry-index l.fn.entries);
  few : l.above ≤ l.entry-index;
}
