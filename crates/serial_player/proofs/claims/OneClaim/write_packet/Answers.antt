use Rattle.std.proofs.Common.{◌≡◌, ℕ, List, refl, sym, ap, subst, ◌∙◌}
use Rattle.map_entry.specs.Row.{channels_of_output}
use Rattle.packet_writer.specs.Packet.{RowFits, output_of_claim}
use Rattle.serial_player.specs.Table.{found_placed, place_of_claim}
use Rattle.serial_player.proofs.TableClaims.{found_frames, found_of}
use Rattle.serial_player.proofs.claims.OneClaim.write_packet.Goals as goal

pub write_claim-requires-clause-rows : goal.write_claim-requires-clause-rows
write_claim-requires-clause-rows c =
    λ frame within.
    let s = c.args.self.now.setup.now in
    let o = output_of_claim s c.args.self.now.k in
    subst (RowFits s.device.inputs (channels_of_output s.device o)) (sym (c.rows.ensures frame))
    (c.requires.ready.rows frame within)

pub write_claim-requires-clause-blocks : goal.write_claim-requires-clause-blocks
write_claim-requires-clause-blocks c = λ b agrees input.
    rw (agrees input, c.new.ensures.table, c.new.ensures.place, c.new.ensures.found, c.place.ensures)
    (found_frames c.args.self.now.setup.now.device c.args.self.now.table.now
    (place_of_claim c.args.self.now.setup.now c.args.self.now.k) c.args.found.now
    c.requires.ready.table input)

pub returns : goal.returns
returns c = λ entries blocks by.
    let of = c.args.self.now in
    let s = of.setup.now in
    let k = of.k in
    let table = of.table.now in
    let found = c.args.found.now in
    let source = c.write_claim.new.source in
    let b = found_placed source.table.now source.place source.found.now in
    let agrees = c.write_claim.ensures.kept b (λ i. refl) in
    let same : (i : ℕ) → b i ≡ found_placed table (place_of_claim s k) found i =
    λ i. agrees i ∙ rw (c.new.ensures.table, c.new.ensures.place, c.new.ensures.found, c.place.ensures) refl in
    c.write_claim.ensures.text b (λ i. refl) entries blocks found
    (λ frame lt.
    c.rows.ensures frame ∙ by.0 frame)
    (found_of s entries blocks table k b found by.1 same)
