use Rattle.std.proofs.Common.{ℕ, ◌<◌, ◌≡◌, ◌+◌, get_or, length, arith, rules}
use Rattle.std.specs.Char.{digit_value}
use Rattle.std.specs.Int.{IsInRange}
use Rattle.std.proofs.lemmas.Grind.{common_steps}
use Rattle.std.proofs.lemmas.Int.Digits.{digits_more, digits_value_more}
use Rattle.std.proofs.lemmas.Str.{digit_value_digit}
use Rattle.std.proofs.lemmas.Str.Parse.{digit_at}
use Rattle.tai_time.proofs.tai.read_number.Goals as goal

pub returns-then-not-is_ascii_digit-clause-none : goal.returns-then-not-is_ascii_digit-clause-none
returns-then-not-is_ascii_digit-clause-none c numeral =
    let range : IsInRange 48 57 (get_or c.args.text.now c.loop-byte.byte-index 0) = digit_at c.args.text.now c.loop-byte.byte-index numeral.1 (search rules) in
    grind (arith, common_steps)

pub loop-byte-preserved : goal.loop-byte-preserved
loop-byte-preserved c =
    let b : ℕ = get_or c.args.text.now c.loop-byte.byte-index 0 in
    let within : c.loop-byte.byte-index < length c.args.text.now = search rules in
    let range : IsInRange 48 57 b = (grind (arith, common_steps), grind (arith, common_steps)) in
    let digit : digit_value b + 48 ≡ b = digit_value_digit b range in
    record {
      digits = digits_more 10 c.args.text.now c.loop-byte.byte-index within c.loop-byte.invariant.digits (omega (arith, digit, range));
      value = omega (arith, digits_value_more 10 c.args.text.now c.loop-byte.byte-index within, digit, c.loop-byte.invariant.value);
    }
