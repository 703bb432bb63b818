use Rattle.std.proofs.Common.{◌∙◌, sym, arith}
use Rattle.std.specs.Str.Parse.{without_leading_plus}
use Rattle.io_caps.specs.declared.limits.TheConstants.{MOST_FRAMES}
use Rattle.chanmap.proofs.Numbers.{number_is, number_none, parsed_none, parsed_some}
use Rattle.chanmap.proofs.words.frames_of.Goals as goal

pub returns-in_err-frames : goal.returns-in_err-frames
returns-in_err-frames c =
    c.from_residual.ensures
    ∙ sym (number_none 1 MOST_FRAMES (without_leading_plus c.args.word.now) (λ numeral low high.
    parsed_none c.parse.result _ _ c.parse.ensures.value.0
    (sym c.ok.ensures.value ∙ c.in_err-frames.was) (numeral, omega (arith, high))))

pub returns-then-frames-le-MOST_FRAMES : goal.returns-then-frames-le-MOST_FRAMES
returns-then-frames-le-MOST_FRAMES c =
    let read =
    parsed_some c.parse.result c.in_ok-frames.frames _ _ c.parse.ensures.value.0
    (sym c.ok.ensures.value ∙ c.in_ok-frames.was) in
    sym (number_is 1 MOST_FRAMES c.in_ok-frames.frames (without_leading_plus c.args.word.now)
    read.0.0 read.1 (omega arith) (omega arith))
