-- What is known of a table in the end, with all its passes. (This project's own.)
use Rattle.std.specs.Prelude.{ℕ, ◌+◌, ◌&&◌, nat_le, nat_lt, eqb, cond, min, List, [], ◌∷◌, ◌++◌}
use Rattle.std.specs.Prelude.{length, count_by}
use Rattle.std.specs.List.{sum_by}
use Rattle.claim_rule.specs.declared.plan.Plan.{Plan}
use Rattle.claim_rule.specs.declared.view.View.{View}
use Rattle.claim_rule.specs.declared.view.Draw.{Draw}
use Rattle.claim_rule.specs.declared.view.Sight.{Sight}
use Rattle.claim_word.specs.Claims.{claims_of}
use Rattle.claim_word.specs.Faces.{PassFace, ClientFace, PublisherFace}

-- the draws of passes, pass by pass
abbrev pub draws_in : List PassFace → List Draw
draws_in [] = []
draws_in (w ∷ ws) = w.view.draws ++ draws_in ws

-- the claims of a pass
abbrev pub claims_by : Plan → PassFace → List ℕ
claims_by plan w = claims_of plan w.view.draws

-- what passes have seen or were told, pass by pass
abbrev pub seen_in : List ClientFace → List Sight
seen_in [] = []
seen_in (c ∷ cs) = (c.view.sights ++ c.view.told) ++ seen_in cs

-- what the publisher and its clients have seen or were told
abbrev pub all_seen : PublisherFace → List ClientFace → List Sight
all_seen p cs = p.view.sights ++ (p.view.told ++ seen_in cs)

-- a view that has taken passes in
abbrev pub with_workers : View → List PassFace → View
with_workers v ws = record v { parts = v.parts + length ws; draws = v.draws ++ draws_in ws }

-- a view that has taken in what clients have seen
abbrev pub with_clients : View → List ClientFace → View
with_clients v cs = record v { told = v.told ++ seen_in cs }

-- how often a number stands in lists of claims
abbrev pub times_claimed : ℕ → List (List ℕ) → ℕ
times_claimed k lists = sum_by (count_by (eqb k)) lists

-- 1 for the number of a claim that was made on the table, after a number of draws, and 0 for
-- another
abbrev pub once_claimed : Plan → ℕ → ℕ → ℕ
once_claimed plan drawn k =
    cond (nat_le plan.from k && nat_lt k (plan.from + min drawn plan.packets)) 1 0
