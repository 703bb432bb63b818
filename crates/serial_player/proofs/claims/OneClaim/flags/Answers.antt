use Rattle.std.proofs.Common.{◌∙◌, rules}
use Rattle.std.proofs.lemmas.List.{take_at}
use Rattle.serial_player.proofs.claims.OneClaim.flags.Goals as goal

pub returns : goal.returns
returns c = λ entries blocks by.
    rw (c.from_vec.ensures ∙ take_at c.set_found.new.found _ c.in_ok-made.made.len (search rules))
    (c.set_found.ensures.flags entries blocks by)
