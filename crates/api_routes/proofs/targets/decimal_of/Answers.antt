use Rattle.std.proofs.Common.{ℕ, ◌-◌, ◌^◌, ◌≡◌, ◌∙◌, sym, ap, arith, decimal, true≢false}
use Rattle.std.proofs.lemmas.Slice.Eq.{bytes_eq-Decides}
use Rattle.channel_json.proofs.NumberLemmas.{parsed_some, parsed_none, numeral, read_back, not_read}
use Rattle.api_routes.proofs.targets.decimal_of.Goals as goal

abbrev most : ℕ
most = 2 ^ 64 - 1

pub returns-in_err-number : goal.returns-in_err-number
returns-in_err-number c =
    c.from_residual.ensures ∙ sym (not_read most c.args.text.now (λ n le e.
    let own = numeral c.args.text.now n (omega (arith, le)) e in
    parsed_none c.parse.result _ _ c.parse.ensures.value.0
    (sym c.ok.ensures.value ∙ c.in_err-number.was) (own.0, omega (arith, own.1, le))))

pub returns-then-eq : goal.returns-then-eq
returns-then-eq c =
    let read =
    parsed_some c.parse.result c.in_ok-number.number _ _ c.parse.ensures.value.0
    (sym c.ok.ensures.value ∙ c.in_ok-number.was) in
    let key =
    (bytes_eq-Decides c.format.result.now c.args.text.now).0
    (sym c.eq.ensures ∙ c.if-eq.true) in
    sym (read_back most c.args.text.now c.in_ok-number.number (omega (arith, read.0.1, read.1))
    (omega (arith, read.0.1, read.1)) (sym key
    ∙ c.format.ensures.text))

pub returns-else-eq : goal.returns-else-eq
returns-else-eq c =
    let read =
    parsed_some c.parse.result c.in_ok-number.number _ _ c.parse.ensures.value.0
    (sym c.ok.ensures.value ∙ c.in_ok-number.was) in
    sym (not_read most c.args.text.now (λ n le e.
    let own = numeral c.args.text.now n (omega (arith, le)) e in
    let same : c.format.result.now ≡ c.args.text.now =
    c.format.ensures.text ∙ ap decimal (read.1 ∙ own.1) ∙ sym e in
    let yes = (bytes_eq-Decides c.format.result.now c.args.text.now).1 same in
    true≢false (sym yes ∙ sym c.eq.ensures ∙ c.if-eq.false)))
