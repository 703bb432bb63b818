use Rattle.std.proofs.Common.{List, [], ◌∷◌, ◌++◌, ℕ, sym, ◌∙◌, zero-add}
use Rattle.std.proofs.lemmas.List.FromFn.{map-range_with_len_more}
use Rattle.interleavings.specs.Core.{no_sight}
use Rattle.interleavings.specs.declared.facts.Sight.{Sight}
use Rattle.interleavings.proofs.Ranging.{both}
use Rattle.interleavings.proofs.start.no_sights.Goals as goal

pub loop-preserved : goal.loop-preserved
loop-preserved c =
    c.in_ok-push.ensures.ok
    ∙ both (λ (xs : List Sight) (x : Sight). xs ++ x ∷ []) c.loop.invariant c.in_ok-no_sight.ensures
    ∙ sym (map-range_with_len_more (λ (worker : ℕ). no_sight c.args.inputs) 0 c.loop.counter _
    (zero-add c.loop.counter))
