use Rattle.std.proofs.Common.{◌≡◌, ◌-◌, ◌^◌, min, take}
use Rattle.std.specs.Str.Parse.{AllDigits, digits_value}
use Rattle.tai_time.proofs.tai.read_number.Given as goal

abbrev pub invariant-loop-byte : goal.invariant-loop-byte
invariant-loop-byte l = record {
  digits : AllDigits 10 (take l.byte-index l.text);
  value : l.number ≡ min (digits_value 10 (take l.byte-index l.text)) (2 ^ 64 - 1);
}
