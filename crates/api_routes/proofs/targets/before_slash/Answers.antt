use Rattle.std.proofs.Common.{sym}
use Rattle.api_routes.proofs.PartLemmas.{before_found, before_missing}
use Rattle.api_routes.proofs.targets.before_slash.Goals as goal

pub returns-in-Some : goal.returns-in-Some
returns-in-Some c = before_found c.args.rest.now c.in-Some.end (sym c.in-Some.ensures)

pub returns-in-None : goal.returns-in-None
returns-in-None c = before_missing c.args.rest.now (sym c.in-None.ensures)
