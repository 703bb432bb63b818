use Rattle.std.proofs.Common.{◌≡◌, ◌<◌, ◌∷◌, [], ◌++◌, length, map, sym, ap, ◌∙◌, arith}
use Rattle.serial_player.specs.Table.{BlockTable, input_blocks}
use Rattle.serial_player.proofs.Ranges.{map_range_more}
use Rattle.serial_player.proofs.Tables.{session_is}
use Rattle.serial_player.proofs.blocks.tabulate.Goals as goal

pub loop-input-preserved : goal.loop-input-preserved
loop-input-preserved c =
    let items = c.args.items.now in
    let f = input_blocks c.args.device.now items c.args.ticks in
    let i = c.loop-input.input in
    let made = c.in_ok-blocks_of_packets.field-0 in
    let have = c.in_ok-packets.ensures in
    let within : i < length c.in_ok-packets.packets.items =
    omega (arith, c.loop-input-test.true, have.long) in
    let is : made ≡ f i =
    c.in_ok-blocks_of_packets.ensures.blocks
    ∙ session_is (λ p. p.now) c.args.device.now items c.args.ticks i c.deref.result.now
    (rw c.deref.ensures.value (ap (λ list. map (λ p. p.now) list.items) c.index-packets.ensures
    ∙ have.each i _ within)) in
    c.in_ok-push.ensures.ok ∙ ap (λ (z : BlockTable). z ++ made ∷ []) c.loop-input.invariant
    ∙ rw is (sym (map_range_more f i))
