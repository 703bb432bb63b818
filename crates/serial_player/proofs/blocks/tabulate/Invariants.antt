use Rattle.std.proofs.Common.{◌≡◌, map}
use Rattle.std.specs.List.{range_with_len}
use Rattle.serial_player.specs.Table.{input_blocks}
use Rattle.serial_player.proofs.blocks.tabulate.Given as goal

abbrev pub invariant-loop-input : goal.invariant-loop-input
invariant-loop-input l =
    l.made ≡ map (input_blocks l.device l.items l.ticks) (range_with_len 0 l.input)
