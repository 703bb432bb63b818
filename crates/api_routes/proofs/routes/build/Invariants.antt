use Rattle.std.proofs.Common.{◌≡◌, drop, map, []}
use Rattle.api_routes.specs.Table.{with_routes}
use Rattle.api_routes.proofs.routes.build.Given as goal

abbrev pub invariant-loop-text : goal.invariant-loop-text
invariant-loop-text l =
    with_routes l.router (map (λ r. (r.0.now, r.1)) (drop l.text-index l.routes))
    ≡ with_routes [] (map (λ r. (r.0.now, r.1)) l.routes)
