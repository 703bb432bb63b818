use Rattle.std.proofs.Common.{◌+◌, ℕ, take, drop, sym, ap, ◌∙◌, rules}
use Rattle.std.proofs.lemmas.List.{take_rest}
use Rattle.tai_time.proofs.TimeLaws.{colon_found, colon_missing}
use Rattle.tai_time.proofs.tai.cut_at_colon.Goals as goal

pub returns-in_err-at-clause-none : goal.returns-in_err-at-clause-none
returns-in_err-at-clause-none c =
    rw c.from_residual.ensures (colon_missing c.args.text.now (sym c.colon_at.ensures ∙ c.in_err-at.was))

pub returns-clause-some : goal.returns-clause-some
returns-clause-some c =
    let found = colon_found c.args.text.now c.in_ok-at.at (search rules) in (
      found.0,
      ap (λ (n : ℕ). take n c.args.text.now) found.1,
      take_rest c.args.text.now (c.in_ok-at.at + 1)
          ∙ ap (λ (n : ℕ). drop (n + 1) c.args.text.now) found.1,
    )
