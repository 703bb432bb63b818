use Rattle.std.proofs.lemmas.List.{drop_more}
use Rattle.std.proofs.Common.{◌<◌, ◌+◌, length, get_or, map, drop, ◌≡◌, ℕ, List, Result, Ok, Err}
use Rattle.matchit.specs.Route.{Scan, parse_route}
use Rattle.matchit.specs.Router.{InsertsRead}
use Rattle.matchit.specs.declared.error.InsertError.{InsertError}
use Rattle.api_routes.specs.declared.routes.Route.{Route}
use Rattle.api_routes.specs.Table.{Rows, with_route, with_routes, with_scan}

read : (scan : Result Scan InsertError) (route : Route) (old new : Rows) (u : Unit {0})
    → InsertsRead scan route old new (Ok u)
    → new ≡ with_scan scan route old
read (Ok s) route old new u h = h.1
read (Err e) route old new u h = h.0

-- what an insert that succeeds leaves
pub inserted : (text : List ℕ) (route : Route) (old new : Rows) (u : Unit {0})
    → InsertsRead (parse_route text) route old new (Ok u)
    → new ≡ with_route text route old
unfolding with_route
inserted text route old new u h = read (parse_route text) route old new u h

-- one more route of a list
pub one_more : {T : Type 0} (f : T → List ℕ × Route) (xs : List T) (i : ℕ) (d : T)
    (old new rows : Rows) → i < length xs
    → new ≡ with_route (f (get_or xs i d)).0 (f (get_or xs i d)).1 old
    → with_routes old (map f (drop i xs)) ≡ rows
    → with_routes new (map f (drop (i + 1) xs)) ≡ rows
one_more f xs i d old new rows lt e h = rw e (rw (drop_more xs i d lt) at h)
