use Rattle.std.proofs.Common.{◌≡◌, ◌*◌, ◌%◌, ◌^◌, ℕ, ap, ◌∙◌, rules}
use Rattle.std.proofs.lemmas.Nat.{mul-mod_first}
use Rattle.packet_writer.specs.Packet.{head_of}
use Rattle.packet_writer.proofs.packet.head_at.Goals as goal

pub returns : goal.returns
returns c =
    let rate = c.args.rate in
    let tick = c.args.tick in
    let frames : c.from.result ≡ rate.frames = search rules in
    let timestamp : tick % 2 ^ 32 * c.from.result % 2 ^ 32 ≡ tick * rate.frames % 2 ^ 32 =
    ap (λ (n : ℕ). tick % 2 ^ 32 * n % 2 ^ 32) frames
    ∙ mul-mod_first tick rate.frames (2 ^ 32) in
    ap (λ (stamp : ℕ). record (head_of rate c.args.output.now tick) { timestamp = stamp }) timestamp
