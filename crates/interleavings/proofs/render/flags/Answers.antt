use Rattle.std.proofs.Common.{◌≡◌, length, ◌∙◌, rules, ℕ}
use Rattle.std.specs.Prelude.{◌&&◌}
use Rattle.std.proofs.lemmas.List.{take_at}
use Rattle.packet_writer.specs.Flags.{is_named}
use Rattle.packet_writer.specs.Packet.{flag_of}
use Rattle.interleavings.proofs.Shown.{flags_are}
use Rattle.interleavings.proofs.render.flags.Goals as goal

pub returns : goal.returns
returns g c =
    let s = c.args.setup.now in
    let made = c.mark_seen.new.flags in
    let long : length made ≡ length s.device.inputs = search rules in
    c.from_vec.ensures ∙ take_at made _ c.in_ok-made.made.len (search rules)
    ∙ flags_are
    (λ (i : ℕ). is_named s.device.rate.frames (g.R.FrameRows.row_of c.args.rows.now) i
    && flag_of c.args.seen.now i) (length s.device.inputs) made long
    c.mark_seen.ensures.each
