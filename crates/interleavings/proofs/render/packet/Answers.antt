use Rattle.std.proofs.Common.{◌≡◌, ℕ, refl, ◌∙◌, rules}
use Rattle.std.proofs.lemmas.List.{take_at}
use Rattle.map_entry.specs.Row.{channels_of}
use Rattle.packet_writer.specs.Packet.{flag_of, found_block}
use Rattle.plain_book.specs.Time.{tick_of_claim}
use Rattle.interleavings.specs.Core.{set_at}
use Rattle.interleavings.proofs.Shown.{found_whole}
use Rattle.interleavings.proofs.render.packet.Goals as goal

pub write_claim-requires-clause-blocks : goal.write_claim-requires-clause-blocks
write_claim-requires-clause-blocks g c = λ b agrees input.
    let s = c.args.setup.now in
    let tick = tick_of_claim s c.args.k in
    let block = set_at c.args.table.now input tick in
    rw (
      agrees input,
      c.new-blocks.ensures.table,
      c.new-blocks.ensures.found,
      c.new-blocks.ensures.tick,
      c.tick_of.ensures,
    )
    (found_whole (channels_of s.device.inputs input) s.device.rate.frames
    (flag_of c.args.found.now input) block (c.requires.blocks input tick))

pub returns : goal.returns
returns g c = λ entries rows.
    let s = c.args.setup.now in
    let k = c.args.k in
    let source = c.write_claim.new.source in
    let b = found_block (set_at source.table.now) source.found.now source.tick in
    let agrees = c.write_claim.ensures.kept b (λ i. refl) in
    let same : (i : ℕ)
    → b i ≡ found_block (set_at c.args.table.now) c.args.found.now (tick_of_claim s k) i =
    λ i. agrees i
    ∙ rw (
      c.new-blocks.ensures.table,
      c.new-blocks.ensures.found,
      c.new-blocks.ensures.tick,
      c.tick_of.ensures,
    ) refl in
    c.from_vec.ensures ∙ take_at c.write_claim.new.out _ c.in_ok-made.made.len (search rules)
    ∙ c.write_claim.ensures.text b (λ i. refl) entries (set_at c.args.table.now) c.args.found.now
    rows
    (λ input named. same input)
