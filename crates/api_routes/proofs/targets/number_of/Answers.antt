use Rattle.std.proofs.Common.{◌-◌, ◌^◌, decimal, sym, subst, arith}
use Rattle.std.specs.Str.{IsUtf8}
use Rattle.std.proofs.lemmas.Fmt.{IsAscii-decimal}
use Rattle.std.proofs.lemmas.Str.{IsUtf8-from_ascii}
use Rattle.channel_json.proofs.NumberLemmas.{not_read}
use Rattle.api_routes.proofs.targets.number_of.Goals as goal

pub returns-in-Err : goal.returns-in-Err
returns-in-Err c =
    sym (not_read (2 ^ 64 - 1) c.args.text.now (λ n le e.
    c.in-Err.ensures.cases.0
    (subst IsUtf8 (sym e)
    (IsUtf8-from_ascii (decimal n) (IsAscii-decimal n (omega (arith, le)))))))
