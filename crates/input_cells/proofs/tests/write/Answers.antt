use Rattle.std.proofs.Common.{sym, subst, List}
use Rattle.map_entry.specs.Row.{channels_of_output}
use Rattle.map_entry.specs.declared.cell.Cell.{Cell}
use Rattle.packet_writer.specs.Packet.{RowFits}
use Rattle.input_cells.proofs.tests.write.Goals as goal

pub write_packet-requires-clause-rows : goal.write_packet-requires-clause-rows
write_packet-requires-clause-rows c frame lt =
    let d = c.args.device.now in
    subst (λ (row : List Cell). RowFits d.inputs (channels_of_output d 0) row)
    (sym (c.new.ensures.row frame)) (c.requires.row frame lt)
