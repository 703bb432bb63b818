use Rattle.std.proofs.Common.{rules, ◌≡◌, ℕ, subst}
use Rattle.std.specs.Prelude.{List}
use Rattle.io_caps.specs.declared.port.Input.{Input}
use Rattle.map_entry.specs.Row.{channels_of_output}
use Rattle.packet_writer.specs.Packet.{RowFits, output_of_claim}
use Rattle.packet_writer.proofs.tests.write.Goals as goal

pub write_claim-requires-clause-rows : goal.write_claim-requires-clause-rows
write_claim-requires-clause-rows c =
    let d = c.args.setup.now.device in
    let row = c.args.row.now in
    let inputs : c.input_slice.result.now ≡ d.inputs = search rules in
    let channels : c.channels-channels.result
    ≡ channels_of_output d (output_of_claim c.args.setup.now 0) = search rules in
    let fits : RowFits c.input_slice.result.now c.channels-channels.result row = search rules in
    c.new.ensures.fits d.inputs (channels_of_output d (output_of_claim c.args.setup.now 0))
    d.rate.frames
    (subst (λ (n : ℕ). RowFits d.inputs n row) channels
    (subst (λ (i : List Input). RowFits i c.channels-channels.result row) inputs fits))
