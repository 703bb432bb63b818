use Rattle.std.proofs.Common.{rules, refl, arith}
use Rattle.packet_writer.specs.Heard.{listed}
use Rattle.packet_writer.proofs.Frames.{frames_of_all}
use Rattle.packet_writer.proofs.source.HeldBlocks.fit.Goals as goal

pub returns-then-not-has_frames : goal.returns-then-not-has_frames
returns-then-not-has_frames c = (
  search rules,
  λ all. let one = all (listed c.args.self.now.blocks.now) (λ i. refl) c.loop-number.number in
      search rules,
)

pub returns : goal.returns
returns c = (
  λ yes b are.
      frames_of_all c.args.device.now.inputs (listed c.args.self.now.blocks.now) b
      c.args.device.now.rate.frames c.loop-number.number are
      (omega (arith, c.loop-number-test.false, c.inputs-number-end.ensures.value))
      c.loop-number.invariant,
  λ all. search rules,
)
