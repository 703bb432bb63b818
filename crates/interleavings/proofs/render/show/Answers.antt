use Rattle.std.proofs.Common.{◌≡◌, ◌≤◌, ◌∙◌, sym, ap, subst, ℕ, arith, List}
use Rattle.map_entry.specs.Setup.{SetupParts}
use Rattle.packet_writer.specs.Packet.{RowFits, output_of_claim, row_at}
use Rattle.map_entry.specs.Row.{channels_of_output}
use Rattle.map_entry.specs.declared.cell.Cell.{Cell}
use Rattle.plain_book.specs.Journal.{entries_of}
use Rattle.plain_book.specs.Rows.{AreEntries}
use Rattle.plain_book.specs.Time.{key_at}
use Rattle.interleavings.specs.Core.{set_at}
use Rattle.interleavings.proofs.Shown.{claim_is, rows_fit}
use Rattle.interleavings.proofs.render.show.Goals as goal

pub packet-requires-clause-rows : goal.packet-requires-clause-rows
packet-requires-clause-rows c = λ frame within.
    let s = c.args.session.now.setup in
    let t = c.tick_of.result in
    let o = c.output_of.result in
    let are : AreEntries s (key_at s s.device.base) c.entries.result.now =
    subst (λ (x : SetupParts). AreEntries x (key_at x x.device.base) c.entries.result.now)
    c.requires.facts.desk c.entries.ensures.fit in
    let since : s.device.base ≤ t = omega (arith, c.tick_of.ensures) in
    subst (λ (r : List Cell). RowFits s.device.inputs
    (channels_of_output s.device (output_of_claim s c.args.k)) r) (sym (c.new-rows.ensures frame))
    (subst (λ (x : ℕ). RowFits s.device.inputs (channels_of_output s.device x)
    (row_at c.entries.result.now o t frame)) c.output_of.ensures.value
    (rows_fit s c.entries.result.now o t frame are c.output_of.ensures.there since))

pub returns : goal.returns
returns c =
    let s = c.args.session.now.setup in
    let k = c.args.k in
    let journal = c.args.facts.now.desk.journal in
    let entries : c.entries.result.now ≡ entries_of s journal =
    c.entries.ensures.value
    ∙ ap (λ (x : SetupParts). entries_of x journal) c.requires.facts.desk in
    let rows = λ (frame : ℕ).
    c.new-rows.ensures frame
    ∙ (λ i. row_at (entries i) (c.output_of.ensures.value i) (c.tick_of.ensures i) frame) in
    let text = rw (c.as_slice-table.ensures.value, c.as_slice.ensures) at c.in_ok-packet.ensures in
    c.new.ensures ∙ claim_is s journal (set_at c.args.facts.now.blocks.items) c.args.seen.now k
    _ c.in_ok-found.found
    c.in_ok-packet.packet rows c.in_ok-found.ensures
    (text (entries_of s journal) (λ frame lt. rows frame))
