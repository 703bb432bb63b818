use Rattle.std.proofs.Common.{◌∙◌, arith}
use Rattle.rtp_pcm.specs.Places.{HasAllParts}
use Rattle.rtp_pcm.proofs.PacketLaws.{IsRtp-stands, HasAllParts-IsRtp}
use Rattle.rtp_pcm.proofs.Readings.{found, missing, only}
use Rattle.rtp_pcm.proofs.ReadingLaws.{reading-there, reading-missing}
use Rattle.rtp_pcm.proofs.packet.read_packet.Goals as goal

pub returns-clause-found : goal.returns-clause-found
returns-clause-found c =
    found c.walk.result (HasAllParts c.args.bytes.now) _ _ c.walk.ensures.ok.0 c.walk.ensures.parts
    (λ all p q. rw (q.0, q.1, q.2) (HasAllParts-IsRtp c.args.bytes.now (λ i. omega (arith, c.type_inv.bytes i)) all))

pub returns-clause-only : goal.returns-clause-only
returns-clause-only c head marker payload reading =
    let there = IsRtp-stands c.args.bytes.now head marker payload reading in
    only c.walk.result _ _ (c.walk.ensures.ok.1 there.parts) c.walk.ensures.parts (λ p q. (q.0 ∙ there.fields, q.1 ∙ there.marked, q.2 ∙ there.rest))

pub returns-clause-reading : goal.returns-clause-reading
returns-clause-reading c =
    found c.walk.result (HasAllParts c.args.bytes.now) _ _ c.walk.ensures.ok.0 c.walk.ensures.parts
    (λ all p q. rw (q.0, q.1, q.2) (reading-there c.args.bytes.now all))

pub returns-clause-no_reading : goal.returns-clause-no_reading
returns-clause-no_reading c =
    missing c.walk.result (HasAllParts c.args.bytes.now) _ c.walk.ensures.ok.1 (reading-missing c.args.bytes.now)
