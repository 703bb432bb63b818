use Rattle.std.proofs.Common.{◌+◌, length, ◌∙◌, ap}
use Rattle.capture_file.proofs.ResultLaws.{length-claim, claim_joined}
use Rattle.capture_file.proofs.result.push_claim.Goals as goal

pub returns-clause-ok : goal.returns-clause-ok
returns-clause-ok c =
    let claim = c.args.value.now in
    rw (
      c.in_ok-extend_from_slice.ensures.items,
      c.as_slice-2.ensures,
      c.in_ok-push_flags.ensures.ok,
      c.as_slice.ensures,
      c.in_ok-put64.ensures.ok,
      c.in_ok-push32.ensures.ok,
      c.in_ok-push.ensures.items,
    )
    (claim_joined c.args.out.now.items claim (c.len.result + c.len-2.result + 8)
    (ap (λ n. n + c.len-2.result + 8) c.len.ensures
    ∙ ap (λ n. length claim.found + n + 8) c.len-2.ensures ∙ length-claim claim))
