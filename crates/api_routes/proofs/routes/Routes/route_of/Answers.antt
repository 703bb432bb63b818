use Rattle.std.proofs.Common.{◌∙◌, sym, ap, option_map, arith}
use Rattle.api_routes.proofs.TableGood.{answers}
use Rattle.api_routes.proofs.routes.Routes.route_of.Goals as goal

pub returns-in-Ok : goal.returns-in-Ok
returns-in-Ok c =
    let found = rw c.args.self.now.built at c.in-Ok.ensures.found in
    sym (ap (option_map (λ r. r.value)) found)
    ∙ answers c.args.path.now (λ i. omega (arith, c.type_inv.path i))

pub returns-in-Err : goal.returns-in-Err
returns-in-Err c =
    let missing = rw c.args.self.now.built at c.in-Err.ensures.missing in
    sym (ap (option_map (λ r. r.value)) missing)
    ∙ answers c.args.path.now (λ i. omega (arith, c.type_inv.path i))
