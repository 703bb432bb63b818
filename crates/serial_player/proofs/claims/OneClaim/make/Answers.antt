use Rattle.std.proofs.Common.{◌∙◌}
use Rattle.serial_player.proofs.TableClaims.{claim_is}
use Rattle.serial_player.proofs.claims.OneClaim.make.Goals as goal

pub returns : goal.returns
returns c = λ entries blocks by.
    let found = c.in_ok-found.found in
    let closed = c.in_ok-found.ensures entries blocks by in
    let of = c.args.self.now in
    c.new.ensures
    ∙ claim_is of.setup.now entries blocks of.k found c.in_ok-packet.packet closed
    (rw c.as_slice.ensures at (c.in_ok-packet.ensures entries blocks by))
