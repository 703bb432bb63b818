use Rattle.std.proofs.Common.{◌≡◌, ◌++◌, drop}
use Rattle.std.specs.Prelude.{Some}
use Rattle.packet_writer.specs.Heard.{channel_samples}
use Rattle.packet_writer.proofs.source.copy_from_block.Given as goal

abbrev pub invariant-loop-n : goal.invariant-loop-n
invariant-loop-n l = l.out ≡ channel_samples (Some l.samples) l.channels l.channel l.frame l.n
    ++ drop l.n l.fn.out
