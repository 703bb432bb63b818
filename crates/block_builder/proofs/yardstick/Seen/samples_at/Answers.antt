use Rattle.std.proofs.Common.{◌≡◌, ℕ, ◌-◌, ◌*◌, length, ap, arith}
use Rattle.io_caps.specs.Rate.{bytes_per_sample}
use Rattle.std.proofs.lemmas.Grind.{common_steps}
use Rattle.std.proofs.lemmas.List.{length-drop}
use Rattle.block_builder.proofs.Yardsticks.{frame_within}
use Rattle.block_builder.proofs.yardstick.Seen.samples_at.Goals as goal

pub put_samples-requires-clause-there : goal.put_samples-requires-clause-there
put_samples-requires-clause-there c =
    let s = c.args.self in
    let q = (c.args.place - s.first) * c.frame_len.result in
    let within = frame_within c.args.place s.first s.count c.frame_len.result (length s.payload.now)
    c.requires.frame.0 c.requires.frame.1
    (omega (arith, c.requires.whole.1, ap (λ (b : ℕ). s.count * b) c.frame_len.ensures)) in
    let long : length c.deref_mut.result.now ≡ c.args.intake.channels =
    grind (arith, common_steps) in
    let room = ap (λ (k : ℕ). k * bytes_per_sample c.args.intake.width) long in
    omega (arith, room, within, c.frame_len.ensures, length-drop q s.payload.now)
