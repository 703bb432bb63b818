use Rattle.std.proofs.Common.{◌≡◌, ◌≤◌, ◌<◌, ℕ, Bool, true, false, length}
use Rattle.std.specs.Prelude.{slice_index_or}
use Rattle.packet_writer.proofs.flags.look_at_marked.Given as goal

abbrev pub invariant-loop-input : goal.invariant-loop-input
invariant-loop-input g l =
    let sees = g.L.Looks.sees in
    record {
      len : length l.flags ≡ length l.fn.flags;
      marked : (i : ℕ) → i < l.input → slice_index_or l.fn.flags i false ≡ true
          → sees l.looks i (slice_index_or l.flags i false);
      other : (i : ℕ) → i < l.input → slice_index_or l.fn.flags i false ≡ false
          → slice_index_or l.flags i false ≡ false;
      ahead : (i : ℕ) → l.input ≤ i → slice_index_or l.flags i false
          ≡ slice_index_or l.fn.flags i false;
      kept : (i : ℕ) (there : Bool) → sees l.fn.looks i there → sees l.looks i there;
      stays : g.L.Looks.stays l.fn.looks l.looks;
    }
