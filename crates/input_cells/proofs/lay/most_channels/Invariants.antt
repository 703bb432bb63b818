use Rattle.std.specs.Prelude.{ℕ, ◌<◌, ◌≤◌}
use Rattle.io_caps.specs.declared.limits.TheConstants.{MOST_CHANNELS}
use Rattle.map_entry.specs.Row.{channels_of}
use Rattle.input_cells.proofs.lay.most_channels.Given as goal

abbrev pub invariant-loop-input : goal.invariant-loop-input
invariant-loop-input l = record {
  most : (i : ℕ) → i < l.input → channels_of l.device.inputs i ≤ l.most;
  few : l.most ≤ MOST_CHANNELS;
}
