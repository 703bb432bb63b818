use Rattle.std.proofs.Common.{◌≡◌, ◌<◌, ℕ, true, false, length, refl, sym, ap, ◌∙◌, arith}
use Rattle.std.specs.Prelude.{not}
use Rattle.io_caps.specs.declared.rate.Rate.{Rate}
use Rattle.map_entry.specs.Setup.{SetupParts}
use Rattle.packet_writer.specs.Flags.{is_named}
use Rattle.packet_writer.specs.Packet.{flag_of}
use Rattle.interleavings.proofs.Shown.{flag_is, when_none}
use Rattle.interleavings.proofs.render.mark_seen.Goals as goal

pub returns-clause-each : goal.returns-clause-each
returns-clause-each g c = λ i there.
    let s = c.args.setup.now in
    let rows = g.R.FrameRows.row_of c.args.rows.now in
    let n = s.device.rate.frames in
    let look = c.look_at_marked-untold.ensures in
    let here = flag_of c.args.seen.now i in
    let frames : c.rate.result.frames ≡ n =
    ap (λ (r : Rate). r.frames) c.rate.ensures.value
    ∙ ap (λ (x : SetupParts). x.device.rate.frames) c.setup.view_is in
    let flags = c.mark_named.new.flags in
    let found = c.look_at_marked-untold.new.flags in
    let after = c.look_at_marked-untold.new.looks in
    let lt : i < length c.args.flags.now = omega (arith, there, c.requires) in
    let within : i < length flags = omega (arith, lt, c.mark_named.ensures.len) in
    let marked : flag_of flags i ≡ is_named n rows i =
    c.mark_named.ensures.each i lt ∙ ap (λ (m : ℕ). is_named m rows i) frames in
    let told = c.is_none.ensures ∙ ap not c.if-prove.false in
    let set_told : (j : ℕ) → j < length flags → flag_of flags j ≡ true
    → flag_of found j ≡ flag_of after.flags.now j =
    when_none c.look_at_marked-untold.result told look.marked in
    let unset_told : (j : ℕ) → j < length flags → flag_of flags j ≡ false
    → flag_of found j ≡ false =
    when_none c.look_at_marked-untold.result told look.other in
    let seen = look.kept i here refl in
    flag_is (is_named n rows i) here (flag_of found i) (flag_of flags i) marked
    (λ set. set_told i within set ∙ sym seen) (λ none. unset_told i within none)
