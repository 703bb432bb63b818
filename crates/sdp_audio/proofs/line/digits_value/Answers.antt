use Rattle.std.proofs.Common.{◌^◌, rules}
use Rattle.sdp_audio.proofs.Digits.{digit_more}
use Rattle.sdp_audio.proofs.line.digits_value.Goals as goal

pub loop-digit-preserved : goal.loop-digit-preserved
loop-digit-preserved c =
    let held = c.loop-digit.invariant in
    let more = digit_more (2 ^ 32) c.loop-digit.number c.args.digits.now c.loop-digit.digit-index c.min-number.result (search rules) held.2
    (search rules) held.1 in
    (search rules, more.0, more.1)
