use Rattle.std.proofs.Common.{refl, rules}
use Rattle.std.proofs.lemmas.List.{places, with_items_is}
use Rattle.capture_file.specs.Parts.{claim_bytes}
use Rattle.chan_io.proofs.Sending.{sent_later}
use Rattle.serial_player.specs.Made.{made_by}
use Rattle.serial_player.proofs.TableClaims.{claim_is}
use Rattle.serial_player.proofs.writing.put_claim.Goals as goal

pub returns-clause-sent : goal.returns-clause-sent
returns-clause-sent g c = λ entries blocks by start text h.
    let of = c.args.of.now in
    let flags = c.set_found.ensures.flags entries blocks by in
    let made = claim_bytes (made_by c.args.of.now entries blocks) in
    let sent = sent_later start _ _ text made (c.in_ok-make_room.ensures.sent start text h) in
    rw (
      with_items_is c.make_room.new.self.buffer c.write_record_at.new.buffer
          (search (rules, places)),
      c.write_record_at.ensures.2,
      c.write_record_at.ensures.1 entries blocks by,
      claim_is of.setup.now entries blocks of.k c.set_found.new.found _ flags refl,
      c.deref_mut.ensures.value,
    )
    sent
