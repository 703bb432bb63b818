use Rattle.std.proofs.Common.{◌≡◌, ℕ, length, sym, ap, ◌∙◌}
use Rattle.map_entry.specs.Setup.{SetupParts}
use Rattle.map_entry.specs.Tick.{claim_output, claim_tick}
use Rattle.packet_writer.specs.Packet.{claim_rows, found_block, output_of_claim, packet_on}
use Rattle.packet_writer.specs.Packet.{tick_of_claim}
use Rattle.packet_writer.proofs.PacketLaws.{is_named-same, packet_on-same}
use Rattle.packet_writer.proofs.packet.write_claim.Goals as goal

pub returns-clause-text : goal.returns-clause-text
returns-clause-text g c = λ b agrees entries blocks flags rows found.
    let s = c.args.setup.now in
    let k = c.args.k in
    let row_of = g.R.FrameRows.row_of c.args.rows.now in
    let outputs : c.outputs-outputs.result ≡ length s.device.outputs =
    c.outputs-outputs.ensures.value
    ∙ ap (λ (x : SetupParts). length x.device.outputs) c.setup.view_is in
    let base = c.base.ensures.value ∙ ap (λ (x : SetupParts). x.device.base) c.setup.view_is in
    let output : c.claim_output-output.result ≡ output_of_claim s k =
    c.claim_output-output.ensures.value ∙ ap (λ (n : ℕ). claim_output n k) outputs in
    let tick : c.claim_tick-tick.result ≡ tick_of_claim s k =
    c.claim_tick-tick.ensures ∙ ap (λ (x : ℕ). claim_tick x c.outputs-outputs.result k) base
    ∙ ap (λ (n : ℕ). claim_tick s.device.base n k) outputs in
    c.write_packet.ensures.text b agrees
    ∙ ap (λ (x : SetupParts). packet_on x.device c.claim_output-output.result row_of b
    c.claim_tick-tick.result) c.setup.view_is
    ∙ ap (λ (o : ℕ). packet_on s.device o row_of b c.claim_tick-tick.result) output
    ∙ ap (λ (t : ℕ). packet_on s.device (output_of_claim s k) row_of b t) tick
    ∙ packet_on-same s.device (output_of_claim s k) row_of (claim_rows s entries k) b
    (found_block blocks flags (tick_of_claim s k)) (tick_of_claim s k) rows
    (λ input named. found input (sym
    (is_named-same s.device.rate.frames row_of (claim_rows s entries k) rows input) ∙ named))
