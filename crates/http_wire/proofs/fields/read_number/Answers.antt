use Rattle.std.proofs.Common.{◌+◌, rules}
use Rattle.http_wire.specs.declared.limits.TheConstants.{MOST_BODY}
use Rattle.http_wire.proofs.FieldLemmas.{digit_more}
use Rattle.http_wire.proofs.fields.read_number.Goals as goal

pub loop-digit-preserved : goal.loop-digit-preserved
loop-digit-preserved c =
    let held = c.loop-digit.invariant in
    let more = digit_more (MOST_BODY + 1) c.loop-digit.number c.args.digits.now c.loop-digit.digit-index c.min-number.result (search rules) held.2
    (search rules) held.1 in
    (search rules, more.0, more.1)
