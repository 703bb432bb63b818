use Rattle.std.proofs.Common.{◌≡◌, ℕ, List, length, sym, ap, ◌∙◌, subst, arith}
use Rattle.std.specs.List.{All}
use Rattle.io_caps.specs.declared.rate.Rate.{Rate}
use Rattle.map_entry.specs.Setup.{SetupParts}
use Rattle.input_rule.specs.declared.view.Look.{Look}
use Rattle.input_cells.specs.Looking.{IsLate, IsOpenAt, SeesClosed}
use Rattle.input_cells.proofs.Growing.{grows_on, hearing_grows}
use Rattle.input_cells.proofs.Starting.{as_inputs}
use Rattle.packet_writer.specs.Flags.{is_named}
use Rattle.packet_writer.specs.Packet.{flag_of}
use Rattle.packet_worker.proofs.Seeing.{closed_heard, closed_named, open_named}
use Rattle.packet_worker.proofs.making.make_closed.Goals as goal

pub look_closed-requires-clause-flags : goal.look_closed-requires-clause-flags
look_closed-requires-clause-flags g c =
    let table = c.requires.table in
    omega (
      arith,
      as_inputs c.args.setup.now.device table.0 table.1 c.args.inputs.now table.2,
      c.mark_named.ensures.len,
      c.requires.flags,
    )

pub returns-in-Ok-clause-grows : goal.returns-in-Ok-clause-grows
returns-in-Ok-clause-grows g c =
    grows_on c.args.reads.now c.look_closed.new.self c.write_front.new.reads
    c.look_closed.ensures.grows
    (hearing_grows c.look_closed.new.self c.write_front.new.reads c.write_front.ensures.hears).0

pub returns-in-Ok-clause-late : goal.returns-in-Ok-clause-late
returns-in-Ok-clause-late g c late =
    subst (λ (l : List Look). All IsLate l)
    (sym (hearing_grows c.look_closed.new.self c.write_front.new.reads
    c.write_front.ensures.hears).1)
    (c.look_closed.ensures.late late)

pub returns-in-Ok-clause-sees : goal.returns-in-Ok-clause-sees
returns-in-Ok-clause-sees g c =
    let device = c.args.setup.now.device in
    let rows = g.R.FrameRows.row_of c.args.rows.now in
    let n : length c.mark_named.new.flags ≡ length device.inputs =
    c.mark_named.ensures.len ∙ c.requires.flags in
    let rate : c.rate.result ≡ device.rate =
    c.rate.ensures.value ∙ ap (λ (s : SetupParts). s.device.rate) c.setup.view_is in
    closed_named (length device.inputs) c.args.tick (flag_of c.mark_named.new.flags)
    (is_named device.rate.frames rows) c.args.reads.now c.write_front.new.reads
    c.look_closed.new.flags
    (λ i lt. c.mark_named.ensures.each i (omega (arith, lt, c.requires.flags))
    ∙ ap (λ (r : Rate). is_named r.frames rows i) rate)
    (closed_heard (length device.inputs) c.args.tick (flag_of c.mark_named.new.flags)
    c.args.reads.now c.look_closed.new.self c.write_front.new.reads c.look_closed.new.flags
    c.write_front.ensures.hears
    (subst
    (λ (inputs : ℕ). SeesClosed inputs c.args.tick (flag_of c.mark_named.new.flags)
    c.args.reads.now c.look_closed.new.self c.look_closed.new.flags) n c.in-Ok.ensures.sees))

pub returns-in-Err-clause-open : goal.returns-in-Err-clause-open
returns-in-Err-clause-open g c =
    let device = c.args.setup.now.device in
    let rows = g.R.FrameRows.row_of c.args.rows.now in
    let n : length c.mark_named.new.flags ≡ length device.inputs =
    c.mark_named.ensures.len ∙ c.requires.flags in
    let rate : c.rate.result ≡ device.rate =
    c.rate.ensures.value ∙ ap (λ (s : SetupParts). s.device.rate) c.setup.view_is in
    open_named (length device.inputs) c.args.tick (flag_of c.mark_named.new.flags)
    (is_named device.rate.frames rows) c.args.reads.now c.look_closed.new.self c.in-Err.open
    (λ i lt. c.mark_named.ensures.each i (omega (arith, lt, c.requires.flags))
    ∙ ap (λ (r : Rate). is_named r.frames rows i) rate)
    (subst
    (λ (inputs : ℕ). IsOpenAt inputs c.args.tick (flag_of c.mark_named.new.flags)
    c.args.reads.now c.look_closed.new.self c.in-Err.open) n c.in-Err.ensures.open)
