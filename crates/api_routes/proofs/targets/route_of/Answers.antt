use Rattle.std.proofs.Common.{ap, sym, ◌∙◌}
use Rattle.api_routes.specs.Match.{hit}
use Rattle.api_routes.specs.Paths.{resources}
use Rattle.api_routes.proofs.PartLemmas.{route_found, route_missing}
use Rattle.api_routes.proofs.targets.route_of.Goals as goal

pub returns-in-Ok : goal.returns-in-Ok
returns-in-Ok c =
    c.route_of.ensures ∙ ap (hit resources) c.in-Ok.ensures.cases.0
    ∙ sym (route_found c.args.path.now c.in-Ok.ensures.cases.1)

pub returns-in-Err : goal.returns-in-Err
returns-in-Err c = route_missing c.args.path.now c.in-Err.ensures.cases.0
