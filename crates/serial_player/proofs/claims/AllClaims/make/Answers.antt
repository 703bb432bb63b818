use Rattle.std.proofs.Common.{◌++◌, ◌∷◌, [], List, map, sym, ap, ◌∙◌}
use Rattle.std.specs.List.{range_with_len}
use Rattle.book_words.specs.declared.history.ClaimItem.{ClaimItem}
use Rattle.serial_player.specs.Made.{all_made_by}
use Rattle.serial_player.proofs.Ranges.{map_range_more}
use Rattle.serial_player.proofs.claims.AllClaims.make.Goals as goal

pub loop-k-preserved : goal.loop-k-preserved
loop-k-preserved c entries blocks are =
    let k = c.loop-k.k in
    let claims = all_made_by c.args.self.now entries blocks in
    c.in_ok-push.ensures.ok
    ∙ ap (λ (made : List ClaimItem). made ++ c.in_ok-make.field-0 ∷ [])
    (c.loop-k.invariant entries blocks are)
    ∙ ap (λ (claim : ClaimItem). map claims (range_with_len 0 k) ++ claim ∷ [])
    (c.in_ok-make.ensures entries blocks (c.claim.ensures.by entries blocks are)
    ∙ c.claim.ensures.made entries blocks)
    ∙ sym (map_range_more claims k)
