use Rattle.api_routes.specs.Table.{table}
use Rattle.api_routes.proofs.routes.Routes.new.Goals as goal

pub invariant_of-result : goal.invariant_of-result
unfolding table
invariant_of-result c = record { built = c.in-Ok.ensures }
