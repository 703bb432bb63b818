use Rattle.std.proofs.Common.{◌≡◌, ◌≤◌, ◌+◌, drop, min, true}
use Rattle.std.specs.List.{list_all}
use Rattle.std.specs.Char.{is_ascii_digit}
use Rattle.std.specs.Str.Parse.{digits_value, digits_value_after}
use Rattle.http_wire.specs.declared.limits.TheConstants.{MOST_BODY}
use Rattle.http_wire.proofs.fields.read_number.Given as goal

abbrev pub invariant-loop-digit : goal.invariant-loop-digit
invariant-loop-digit l =
    (l.number ≤ MOST_BODY + 1)
    × (min (digits_value_after 10 l.number (drop l.digit-index l.digits)) (MOST_BODY + 1) ≡ min (digits_value 10 l.digits) (MOST_BODY + 1))
    × (list_all is_ascii_digit (drop l.digit-index l.digits) ≡ true)
