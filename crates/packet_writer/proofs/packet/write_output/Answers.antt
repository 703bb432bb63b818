use Rattle.std.proofs.Common.{◌≡◌, ap, arith}
use Rattle.rtp_pcm.specs.declared.packet.Head.{Head}
use Rattle.packet_writer.proofs.packet.write_output.Goals as goal

pub write_head-requires-clause-seven_bits : goal.write_head-requires-clause-seven_bits
write_head-requires-clause-seven_bits g c =
    let same : c.head_at.result.payload_type ≡ c.args.output.now.payload_type =
    ap (λ (head : Head). head.payload_type) c.head_at.ensures in
    omega (arith, same, c.requires.payload_type)
