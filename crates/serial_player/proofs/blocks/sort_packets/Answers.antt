use Rattle.std.proofs.Common.{◌<◌, ◌∷◌, [], ◌++◌, length, sym, ap, subst, ◌∙◌, arith}
use Rattle.std.proofs.lemmas.List.{get_or_default}
use Rattle.capture_file.specs.Items.{IsItemThere}
use Rattle.capture_file.specs.declared.items.Item.TheVariants.{Packet}
use Rattle.serial_player.proofs.Packets.{packets_with, packets_without}
use Rattle.serial_player.proofs.blocks.sort_packets.Goals.{in-Some+in_ok-push, in_default}
use Rattle.serial_player.proofs.blocks.sort_packets.Goals as goal

pub loop-item-preserved : goal.loop-item-preserved
loop-item-preserved c =
    let i = c.loop-item.item-index in
    let item = c.item-item.result in
    let made = c.loop-item.made.items in
    elim c.match-packet_of.branch [
      | in-Some+in_ok-push w ↦
          let input = w.in-Some.input in
          let packet = w.in-Some.packet in
          let brings = w.in-Some.ensures.some in
          let there : IsItemThere c.args.inputs (Packet input packet.now) =
          subst (IsItemThere c.args.inputs) (sym c.item-item.is ∙ brings)
          (c.requires i item c.loop-item-test.true) in
          let within : input < length made = omega (arith, there, c.loop-item.invariant.long) in
          rw w.made-is
          (packets_with (λ p. p.now) (λ list. list.items) c.args.inputs made input w.push.new.self
          packet c.args.items.now i item c.loop-item-test.true c.item-item.is brings within
          (λ d. w.in_ok-push.ensures.items
          ∙ ap (λ list. list.items ++ packet ∷ []) (w.index_mut.ensures.value
          ∙ get_or_default made input _ d within))
          c.loop-item.invariant)
      | in_default w ↦
          rw w.made-is (packets_without (λ p. p.now) (λ list. list.items) c.args.inputs made
          c.args.items.now i item c.loop-item-test.true c.item-item.is w.in_default.ensures.none
          c.loop-item.invariant)
    ]
