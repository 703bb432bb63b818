use Rattle.std.proofs.Common.{◌≡◌, ◌-◌, ◌≤◌, length}
use Rattle.map_entry.specs.Tick.{frame_key}
use Rattle.claim_word.specs.Chains.{due_at, output_at, IsChain}
use Rattle.claim_word.proofs.chain.last_by.Given as goal

abbrev pub invariant-loop-later : goal.invariant-loop-later
invariant-loop-later l = record {
  after : l.fn.from ≤ l.place;
  chain : IsChain l.fn.heads (length l.fn.next) l.fn.next l.place;
  its : output_at l.fn.heads l.place ≡ output_at l.fn.heads l.fn.from;
  come : due_at l.fn.heads l.place ≤ frame_key l.fn.tick l.fn.frame;
}

abbrev pub decreases-loop-later : goal.decreases-loop-later
decreases-loop-later l = length l.fn.next - l.place
