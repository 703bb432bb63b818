use Rattle.std.proofs.Common.{◌∙◌, rules}
use Rattle.std.proofs.lemmas.List.{take_at}
use Rattle.serial_player.proofs.claims.OneClaim.packet.Goals as goal

pub returns : goal.returns
returns c = λ entries blocks by.
    c.from_vec.ensures ∙ take_at c.write_packet.new.out _ c.in_ok-made.made.len (search rules)
    ∙ c.write_packet.ensures entries blocks by
