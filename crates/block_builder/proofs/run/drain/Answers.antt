use Rattle.std.proofs.Common.{List, Option, ℤ, ap, sym, subst, ◌∙◌}
use Rattle.std.specs.Prelude.{All, IfSome}
use Rattle.std.proofs.lemmas.List.Elements.{All-push}
use Rattle.block_builder.specs.declared.intake.Intake.{Intake}
use Rattle.block_builder.specs.Blocks.{IsBlock}
use Rattle.block_builder.specs.Building.{Building, blocks_upto}
use Rattle.block_builder.proofs.Runs.{upto_more}
use Rattle.block_builder.proofs.run.drain.Goals as goal

pub loop-block-preserved : goal.loop-block-preserved
loop-block-preserved c =
    let b = c.loop-block.builder in
    let next = c.in-Some.ensures.next in
    let same = c.loop-block.invariant.intake in
    let block = subst (λ (n : Intake). IfSome c.in-Some.block (IsBlock n)) same
    c.in-Some.ensures.shape in
    record {
      intake = ap (λ (x : Building). x.intake) next ∙ same;
      arrivals = ap (λ (x : Building). x.arrivals) next ∙ c.loop-block.invariant.arrivals;
      made =
          c.in_ok-push.ensures.ok
          ∙ upto_more b.intake b.arrivals b.given c.loop-block.made c.in-Some.field-0-0
          c.in-Some.block c.in-Some.ensures.tick c.in-Some.ensures.block c.loop-block.invariant.made
          ∙ sym (ap (λ (x : Building). blocks_upto x.intake x.arrivals x.given) next);
      shape =
          subst (λ (made : List (Option (List ℤ))).
          All (λ b. IfSome b (IsBlock c.args.builder.now.intake)) made)
          (sym c.in_ok-push.ensures.ok)
          (All-push (λ b. IfSome b (IsBlock c.args.builder.now.intake)) c.loop-block.made
          c.in-Some.block c.loop-block.invariant.shape block);
    }
