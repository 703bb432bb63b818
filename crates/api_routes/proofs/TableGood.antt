-- The table of routes parts only at bytes.
use Rattle.std.proofs.Common.{◌≡◌, ℕ, Bool, true, false, ◌&&◌, List, [], ◌∷◌, option_map, refl, sym}
use Rattle.std.proofs.Common.{ap, ◌∙◌, inl, inr, true≢false, suc, ◌<◌, length, get_or, map, cond}
use Rattle.std.proofs.Common.{Some, arith}
use Rattle.std.specs.Prelude.{nat_lt}
use Rattle.std.proofs.lemmas.Bool.Decides.{nat_tests}
use Rattle.matchit.specs.Router.{RouteOf}
use Rattle.api_routes.specs.Paths.{resources}
use Rattle.api_routes.specs.declared.routes.Route.{Route}
use Rattle.api_routes.proofs.MatchLemmas.{fits, is_shaped, IsIn, IsGood, all_fit, seek_hit}
use Rattle.std.specs.List.{list_all}
use Rattle.matchit.specs.Rows.{RowsOf}
use Rattle.matchit.specs.Seek.{first}
use Rattle.matchit.proofs.OnLiterals.{matchit_on_literals}
use Rattle.api_routes.specs.Table.{table, with_route}
use Rattle.api_routes.specs.Match.{hit, takes}

parts : (a b : Bool) → (a && b) ≡ true → (a ≡ true) × (b ≡ true)
parts true b h = (refl, h)
parts false b h = absurd (true≢false (sym h))

module _ {K : Type 0} where
  each : (test : List ℕ → Bool) (rows : RowsOf K) → list_all (λ r. test r.0) rows ≡ true
      → (p : List ℕ) → IsIn p rows
      → test p ≡ true
  each test [] h p i = absurd i
  each test ((q, key) ∷ rows) h p (inl e) = ap test e ∙ (parts _ _ h).0
  each test ((q, key) ∷ rows) h p (inr i) = each test rows (parts _ _ h).1 p i

  pub good : (rows : RowsOf K) → all_fit rows ≡ true → IsGood rows
  good rows h = record {
    fit =
        λ p q i j. each (fits p) rows
        (parts _ _ (each (λ r. is_shaped r && list_all (λ s. fits r s.0) rows) rows h p i)).1 q j;
    shaped =
        λ p i. (parts _ _ (each
        (λ r. is_shaped r && list_all (λ s. fits r s.0) rows) rows h p i)).0;
  }

table_fits : all_fit table ≡ true
unfolding table with_route matchit_on_literals
table_fits = refl

pub table_good : IsGood table
table_good = good table table_fits

abbrev by_value : RowsOf (RouteOf Route) → RowsOf Route
by_value = map (λ r. (r.0, r.1.value))

hit_value_at : (pattern path : List ℕ) (key : RouteOf Route) (rows : RowsOf (RouteOf Route))
    (taken : Bool)
    → option_map (λ r. r.value) (hit rows path) ≡ hit (by_value rows) path
    → option_map (λ r. r.value) (cond taken (Some key) (hit rows path))
    ≡ cond taken (Some key.value) (hit (by_value rows) path)
hit_value_at pattern path key rows true h = refl
hit_value_at pattern path key rows false h = h

hit_value : (rows : RowsOf (RouteOf Route)) (path : List ℕ)
    → option_map (λ r. r.value) (hit rows path) ≡ hit (by_value rows) path
hit_value [] path = refl
hit_value ((pattern, key) ∷ rows) path =
    hit_value_at pattern path key rows (takes pattern path) (hit_value rows path)

shown : by_value table ≡ resources
unfolding table with_route matchit_on_literals resources
shown = refl

all_small : (path : List ℕ) → ((i : ℕ) → get_or path i 0 < 256)
    → list_all (λ b. nat_lt b 256) path ≡ true
all_small [] h = refl
all_small (b ∷ path) h = let below : b < 256 = h 0 in let test : nat_lt b 256 ≡ true =
    grind (arith, nat_tests) in rw (test, all_small path (λ i. h (suc i)))

-- what matchit answers is the resource that has the path
pub answers : (path : List ℕ) → ((i : ℕ) → get_or path i 0 < 256)
    → option_map (λ r. r.value) (first table path) ≡ hit resources path
answers path h =
    ap (option_map (λ r. r.value))
    (seek_hit (length path) table path (omega arith) table_good (all_small path h))
    ∙ hit_value table path ∙ ap (λ rows. hit rows path) shown
