use Rattle.std.proofs.Common.{◌≡◌, [], length, get_or, ap, ◌∙◌}
use Rattle.std.proofs.lemmas.List.{get_or_default}
use Rattle.claim_word.proofs.memory.read_part.Goals as goal
use Rattle.claim_word.proofs.memory.read_part.Goals.{After-index_mut}

-- the row that is lent
lent : (c : After-index_mut)
    → c.index_mut.result.now ≡ get_or c.args.rows.now.items c.args.output []
lent c = c.index_mut.ensures.value ∙ get_or_default c.args.rows.now.items c.args.output
    c.index_mut.result.now [] c.requires.rows.0

pub read_piece-requires-clause-row : goal.read_piece-requires-clause-row
read_piece-requires-clause-row c =
    λ d. ap length (lent (goal.at.read_piece-requires-clause-row c).After-index_mut)
    ∙ c.requires.long d
