use Rattle.std.proofs.Common.{◌≡◌, ◌<◌, ℕ, true, false, length, refl, sym, ap, ◌∙◌, arith}
use Rattle.std.specs.Prelude.{◌&&◌, is_some, not}
use Rattle.io_caps.specs.declared.rate.Rate.{Rate}
use Rattle.map_entry.specs.Setup.{SetupParts}
use Rattle.packet_writer.specs.Flags.{is_named, names_by}
use Rattle.packet_writer.specs.Packet.{claim_rows, flag_of, row_at}
use Rattle.packet_writer.proofs.PacketLaws.{is_named-same}
use Rattle.serial_player.specs.Table.{place_of_claim, placed}
use Rattle.serial_player.proofs.TableClaims.{flag_is, flags_closed, when_none}
use Rattle.serial_player.proofs.claims.OneClaim.set_found.Goals as goal

pub returns-clause-flags : goal.returns-clause-flags
returns-clause-flags c = λ entries blocks by.
    let of = c.args.self.now in
    let s = of.setup.now in
    let k = of.k in
    let table = of.table.now in
    let own = of.entries.now in
    let rows = row_at c.rows.result.entries.now c.rows.result.output c.rows.result.tick in
    let n = s.device.rate.frames in
    let look = c.look_at_marked-untold.ensures in
    let tick = c.new.result in
    let here = λ (i : ℕ). is_some (placed table (place_of_claim s k) i) in
    let frames : c.rate.result.frames ≡ n =
    ap (λ (r : Rate). r.frames) c.rate.ensures.value
    ∙ ap (λ (x : SetupParts). x.device.rate.frames) c.setup.view_is in
    let flags = c.mark_named.new.flags in
    let found = c.look_at_marked-untold.new.flags in
    let after = c.look_at_marked-untold.new.looks in
    let told = c.is_none.ensures ∙ ap not c.if-prove.false in
    let set_told : (j : ℕ) → j < length flags → flag_of flags j ≡ true
    → flag_of found j ≡ is_some (placed after.table.now after.place j) =
    when_none c.look_at_marked-untold.result told look.marked in
    let unset_told : (j : ℕ) → j < length flags → flag_of flags j ≡ false
    → flag_of found j ≡ false =
    when_none c.look_at_marked-untold.result told look.other in
    let each : (i : ℕ) → i < length s.device.inputs
    → flag_of found i ≡ (names_by s own k i && here i) = λ i there.
    let lt : i < length c.args.found.now = omega (arith, there, c.requires.found) in
    let within : i < length flags = omega (arith, lt, c.mark_named.ensures.len) in
    let marked : flag_of flags i ≡ names_by s own k i =
    c.mark_named.ensures.each i lt
    ∙ ap (λ (m : ℕ). is_named m rows i) frames
    ∙ is_named-same n rows (claim_rows s own k) (λ f few. c.rows.ensures f) i in
    let same : is_some (placed tick.table.now tick.place i) ≡ here i =
    rw (c.new.ensures.table, c.new.ensures.place, c.place.ensures) refl in
    let seen = look.kept i (is_some (placed tick.table.now tick.place i)) refl in
    flag_is (names_by s own k i) (here i) (flag_of found i) (flag_of flags i) marked
    (λ set. set_told i within set ∙ sym seen ∙ same) (λ none. unset_told i within none) in
    let long : length found ≡ length s.device.inputs =
    look.len ∙ c.mark_named.ensures.len ∙ c.requires.found in
    flags_closed s own entries blocks table k found by.0 by.1 long each
