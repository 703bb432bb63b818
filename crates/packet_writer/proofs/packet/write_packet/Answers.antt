use Rattle.std.proofs.Common.{List, ap, ◌∙◌}
use Rattle.io_caps.specs.declared.port.Input.{Input}
use Rattle.io_caps.specs.declared.rate.Rate.{Rate}
use Rattle.packet_writer.specs.Packet.{output_packet}
use Rattle.packet_writer.proofs.PacketLaws.{packet_there}
use Rattle.packet_writer.proofs.packet.write_packet.Goals as goal

pub returns-clause-text : goal.returns-clause-text
returns-clause-text g c = λ b agrees.
    let d = c.args.device.now in
    let of = c.output-of.result.now in
    let rows = g.R.FrameRows.row_of c.args.rows.now in
    let packet = λ (rate : Rate) (inputs : List Input).
    output_packet rate inputs of rows b c.args.tick in
    c.write_output.ensures.text b agrees
    ∙ ap (λ (rate : Rate). packet rate c.input_slice-inputs.result.now) c.rate.ensures.value
    ∙ ap (packet d.rate) c.input_slice-inputs.ensures.value
    ∙ packet_there d c.args.output of rows b c.args.tick c.output-of.ensures.value
