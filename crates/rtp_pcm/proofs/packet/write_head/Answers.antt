use Rattle.std.proofs.Common.{rules, arith}
use Rattle.std.proofs.lemmas.Grind.{common_steps}
use Rattle.rtp_pcm.proofs.Readings.{written}
use Rattle.rtp_pcm.proofs.packet.write_head.Goals as goal

pub returns-clause-packet : goal.returns-clause-packet
returns-clause-packet c = written _ _ _ (search rules) (grind (arith, common_steps))
