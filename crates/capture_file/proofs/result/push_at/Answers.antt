use Rattle.std.proofs.Common.{eqb}
use Rattle.capture_file.specs.Parts.{IsShortClaim}
use Rattle.capture_file.proofs.RunLaws.{run_fits}
use Rattle.capture_file.proofs.result.push_at.Goals as goal

pub push_claims-requires : goal.push_claims-requires
push_claims-requires c =
    rw c.split_run.ensures.run
    (run_fits (λ r. eqb r.k c.args.number) IsShortClaim c.args.left.now.claims.now
    c.requires.claims_fit)
