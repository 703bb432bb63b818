use Rattle.std.proofs.Common.{◌<◌, ℕ}
use Rattle.map_entry.specs.Row.{channels_of}
use Rattle.packet_writer.specs.Heard.{HasFrames, listed}
use Rattle.packet_writer.proofs.source.HeldBlocks.fit.Given as goal

abbrev pub invariant-loop-number : goal.invariant-loop-number
invariant-loop-number l = (i : ℕ) → i < l.number
    → HasFrames (listed l.self.blocks.now i) (channels_of l.device.inputs i) l.device.rate.frames
