use Rattle.std.proofs.Common.{◌≡◌, map}
use Rattle.std.specs.List.{range_with_len}
use Rattle.map_entry.specs.declared.cell.Cell.TheVariants.{From}
use Rattle.chanmap.proofs.commands.from_sdp.straight_row.Given as goal

abbrev pub invariant-loop-channel : goal.invariant-loop-channel
invariant-loop-channel l =
    l.row ≡ map (λ channel. From l.input channel) (range_with_len 0 l.channel)
