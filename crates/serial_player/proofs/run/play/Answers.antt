use Rattle.std.proofs.Common.{sym, subst, take}
use Rattle.io_caps.specs.declared.limits.TheConstants.{TICKS_PAST_BASE}
use Rattle.serial_player.specs.Run.{IsRunOf}
use Rattle.serial_player.specs.Serial.{IsStepThere, Played, play_all}
use Rattle.serial_player.proofs.Stepping.{next_claims, play_more}
use Rattle.serial_player.proofs.run.play.Goals as goal

pub step-requires : goal.step-requires
step-requires c =
    let s = c.args.setup.now in
    let steps = c.args.steps.now in
    let i = c.loop-step.step-index in
    let step = c.step-item.result in
    let lt = c.loop-step-test.true in (
      s,
      play_all s (take i steps),
      c.loop-step.invariant,
      subst IsStepThere (sym c.step-item.is) (c.requires.there i step lt),
      next_claims s steps i TICKS_PAST_BASE step lt c.step-item.is c.requires.few,
    )

pub loop-step-preserved : goal.loop-step-preserved
loop-step-preserved c =
    let s = c.args.setup.now in
    let steps = c.args.steps.now in
    let i = c.loop-step.step-index in
    subst (λ (p : Played). IsRunOf s p c.step.new.self)
    (play_more s steps i c.step-item.result c.loop-step-test.true c.step-item.is)
    (c.in_ok-step.ensures s (play_all s (take i steps)) c.loop-step.invariant)
