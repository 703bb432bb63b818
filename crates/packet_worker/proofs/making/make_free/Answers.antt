use Rattle.std.proofs.Common.{◌≡◌, ℕ, length, ap, ◌∙◌, subst, arith}
use Rattle.io_caps.specs.declared.rate.Rate.{Rate}
use Rattle.map_entry.specs.Setup.{SetupParts}
use Rattle.input_cells.specs.Looking.{SeesFree}
use Rattle.input_cells.proofs.Growing.{grows_on, hearing_grows}
use Rattle.input_cells.proofs.Starting.{as_inputs}
use Rattle.packet_writer.specs.Flags.{is_named}
use Rattle.packet_writer.specs.Packet.{flag_of}
use Rattle.packet_worker.proofs.Seeing.{free_heard, free_named}
use Rattle.packet_worker.proofs.making.make_free.Goals as goal

pub look_free-requires-clause-flags : goal.look_free-requires-clause-flags
look_free-requires-clause-flags g c =
    let table = c.requires.table in
    omega (
      arith,
      as_inputs c.args.setup.now.device table.0 table.1 c.args.inputs.now table.2,
      c.mark_named.ensures.len,
      c.requires.flags,
    )

pub returns-clause-grows : goal.returns-clause-grows
returns-clause-grows g c =
    grows_on c.args.reads.now c.look_free.new.self c.write_front.new.reads
    c.look_free.ensures.grows
    (hearing_grows c.look_free.new.self c.write_front.new.reads c.write_front.ensures.hears).0

pub returns-clause-sees : goal.returns-clause-sees
returns-clause-sees g c =
    let device = c.args.setup.now.device in
    let rows = g.R.FrameRows.row_of c.args.rows.now in
    let n : length c.mark_named.new.flags ≡ length device.inputs =
    c.mark_named.ensures.len ∙ c.requires.flags in
    let rate : c.rate.result ≡ device.rate =
    c.rate.ensures.value ∙ ap (λ (s : SetupParts). s.device.rate) c.setup.view_is in
    free_named (length device.inputs) c.args.tick (flag_of c.mark_named.new.flags)
    (is_named device.rate.frames rows) c.args.reads.now c.write_front.new.reads
    c.look_free.new.flags
    (λ i lt. c.mark_named.ensures.each i (omega (arith, lt, c.requires.flags))
    ∙ ap (λ (r : Rate). is_named r.frames rows i) rate)
    (free_heard (length device.inputs) c.args.tick (flag_of c.mark_named.new.flags)
    c.args.reads.now c.look_free.new.self c.write_front.new.reads c.look_free.new.flags
    c.write_front.ensures.hears
    (subst
    (λ (inputs : ℕ). SeesFree inputs c.args.tick (flag_of c.mark_named.new.flags)
    c.args.reads.now c.look_free.new.self c.look_free.new.flags) n c.look_free.ensures.sees))
