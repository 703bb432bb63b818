use Rattle.std.proofs.Common.{ap, arith}
use Rattle.claim_rule.specs.declared.plan.Plan.{Plan}
use Rattle.packet_worker.proofs.Reading.{read_more, read_plan, read_whole}
use Rattle.packet_worker.proofs.rows.read_rows.Goals as goal

pub loop-frame-preserved : goal.loop-frame-preserved
loop-frame-preserved c =
    let p = c.args.pass.now in
    let q = c.loop-frame.pass in
    let was = c.loop-frame.invariant.read in
    let frames = ap (λ (z : Plan). z.setup.device.rate.frames)
    (read_plan p q c.args.claim.now c.loop-frame.frame c.loop-frame.rows was) in
    record {
      within = omega (
        arith,
        c.read_piece-frame.ensures.rows.piece.ends,
        frames,
        c.requires.frames,
      );
      read = read_more p q c.read_piece-frame.new.pass c.args.claim.now c.loop-frame.frame
          c.read_piece-frame.result c.loop-frame.rows c.read_piece-frame.new.rows was
          c.read_piece-frame.ensures.pass c.read_piece-frame.ensures.sound
          (omega (arith, frames, c.requires.frames, c.loop-frame-test.true))
          c.read_piece-frame.ensures.rows;
    }

pub returns-clause-pass : goal.returns-clause-pass
returns-clause-pass c =
    read_whole c.args.pass.now c.loop-frame.pass c.args.claim.now c.loop-frame.frame
    c.loop-frame.rows c.loop-frame.invariant.read
    (let w = c.loop-frame.invariant.within in
    omega (arith, w, c.loop-frame-test.false, c.requires.frames))
    (omega (arith, c.loop-frame-test.false, c.requires.some))
