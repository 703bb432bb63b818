use Rattle.std.proofs.Common.{◌≡◌, length, sym}
use Rattle.capture_file.proofs.Between.{claim_split}
use Rattle.packet_writer.specs.Packet.{packet_by}
use Rattle.book_words.specs.History.{claim_item}
use Rattle.serial_player.proofs.claims.OneClaim.write_record.Goals as goal

pub returns : goal.returns
returns c = λ entries blocks by.
    let s = c.args.self.now.setup.now in
    let k = c.args.self.now.k in
    let found = c.args.found.now in
    let is = c.write_packet.ensures entries blocks by in
    let long : length c.split_at_mut-front.result.1.now ≡ length c.write_packet.new.out =
    sym c.write_packet.auto.out in
    rw (c.write_claim_front.ensures, long, is)
    (sym (claim_split (claim_item k found (packet_by s entries blocks found k))))
