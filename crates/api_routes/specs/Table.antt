-- The rows of a router that has the routes of the API. (This project's own.)
use Rattle.std.specs.Prelude.{ℕ, List, [], ◌∷◌, Result, Ok, Err, map}
use Rattle.api_routes.specs.declared.routes.TheConstants.{ROUTES}
use Rattle.matchit.specs.Rows.{RowsOf}
use Rattle.matchit.specs.Order.{placed}
use Rattle.matchit.specs.Route.{Scan, parse_route}
use Rattle.matchit.specs.Router.{RouteOf, route_from}
use Rattle.matchit.specs.declared.error.InsertError.{InsertError}
use Rattle.api_routes.specs.declared.routes.Route.{Route}

-- the rows of a router
abbrev pub Rows : Type 0
Rows = RowsOf (RouteOf Route)

-- the rows with a route as it was read; a text that is no route adds none
abbrev pub with_scan : Result Scan InsertError → Route → Rows → Rows
with_scan (Ok s) route rows = placed (s.pattern, route_from s route) rows
with_scan (Err e) route rows = rows

-- one more route
unfoldable pub with_route : List ℕ → Route → Rows → Rows
with_route text route rows = with_scan (parse_route text) route rows

-- the rows with these routes, one after another
abbrev pub with_routes : Rows → List (List ℕ × Route) → Rows
with_routes rows [] = rows
with_routes rows (r ∷ routes) = with_routes (with_route r.0 r.1 rows) routes

-- the texts of the routes, each with its name
abbrev pub routes : List (List ℕ × Route)
routes = map (λ r. (r.0.now, r.1)) ROUTES

-- the rows of all routes
unfoldable pub table : Rows
table = with_routes [] routes
