use Rattle.std.proofs.Common.{◌≡◌, sym, ◌∙◌, subst, rules}
use Rattle.input_cells.specs.Faces.{OnlyHears}
use Rattle.input_cells.specs.Shapes.{IsTableOf}
use Rattle.input_cells.proofs.Growing.{all_hear_still}
use Rattle.packet_writer.specs.Packet.{found_block, tick_of_claim}
use Rattle.packet_worker.specs.Bench.{IsPacketBy}
use Rattle.packet_worker.proofs.making.write_seen.Goals as goal

pub returns-clause-hears : goal.returns-clause-hears
returns-clause-hears g c =
    let on : OnlyHears c.args.reads.now c.write_claim.new.source.pass.now =
    c.write_claim.ensures.stays.hears c.args.reads.now
    (subst (OnlyHears c.args.reads.now) (sym c.new-source.ensures.pass)
    (all_hear_still c.args.reads.now)) in search rules

pub returns-clause-packet : goal.returns-clause-packet
returns-clause-packet g c =
    let stays = c.write_claim.ensures.stays in
    let s = c.write_claim.new.source in
    let device = c.args.setup.now.device in
    let table : s.table.now ≡ c.args.inputs.now = stays.table ∙ c.new-source.ensures.table in
    let flags : s.flags.now ≡ c.args.found.now = stays.flags ∙ c.new-source.ensures.flags in
    let tick : s.tick ≡ tick_of_claim c.args.setup.now c.args.k =
    stays.tick ∙ (c.new-source.ensures.tick ∙ c.requires.claim.1) in
    let made : IsPacketBy c.args.setup.now (g.R.FrameRows.row_of c.args.rows.now) c.args.k
    s.pass.now c.args.found.now c.write_claim.new.out =
    λ entries blocks rows agrees.
    c.write_claim.ensures.text (found_block blocks s.flags.now s.tick)
    (c.agree-2.ensures.blocks device c.requires.table.0 c.requires.table.1 blocks
    (subst (IsTableOf device c.requires.table.0 c.requires.table.1) (sym table)
    c.requires.table.2) agrees) entries blocks c.args.found.now rows
    (λ input named. (λ k. found_block blocks (flags k) (tick k) input)) in search rules
