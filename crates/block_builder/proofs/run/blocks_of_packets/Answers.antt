use Rattle.std.proofs.Common.{Some, List, Option, ℤ, map, ap, sym, subst, ◌∙◌, arith}
use Rattle.std.specs.Prelude.{All, IfSome}
use Rattle.std.proofs.lemmas.List.{take_all}
use Rattle.std.proofs.lemmas.List.Elements.{All-nil}
use Rattle.block_builder.specs.declared.arrival.Arrival.TheVariants.{Packet}
use Rattle.block_builder.specs.declared.intake.Intake.{Intake}
use Rattle.block_builder.specs.Blocks.{IsBlock, intake_of}
use Rattle.block_builder.specs.Building.{Building, blocks_upto, session_blocks}
use Rattle.block_builder.proofs.Runs.{begin_upto, begin_drained, upto_stays, upto_end, run_ends}
use Rattle.block_builder.proofs.Runs.{same_intake}
use Rattle.block_builder.proofs.run.blocks_of_packets.Goals as goal

pub loop-packet-init : goal.loop-packet-init
loop-packet-init c =
    let b = c.in_ok-builder.builder in
    record {
      intake = c.in_ok-builder.ensures.intake;
      arrivals = c.in_ok-builder.ensures.arrivals;
      made = c.new-made.ensures ∙ begin_upto b.intake b.arrivals b.given
          c.in_ok-builder.ensures.given;
      shape =
          subst (λ (made : List (Option (List ℤ))). All (λ x. IfSome x (IsBlock b.intake)) made)
          (sym c.new-made.ensures)
          (All-nil (λ x. IfSome x (IsBlock b.intake)));
      drained = begin_drained b.intake b.arrivals b.given c.in_ok-builder.ensures.arrivals
          c.in_ok-builder.ensures.given;
    }

pub drain-requires-clause-made : goal.drain-requires-clause-made
drain-requires-clause-made c =
    let b = c.loop-packet.builder in
    c.loop-packet.invariant.made
    ∙ sym (upto_stays b.intake b.arrivals _ b.given
    (omega (arith, c.loop-packet.invariant.drained)))
    ∙ sym (ap (λ (x : Building). blocks_upto x.intake x.arrivals x.given) c.in_ok-take.ensures.ok)

pub drain-requires-2-clause-made : goal.drain-requires-2-clause-made
drain-requires-2-clause-made c =
    let b = c.loop-packet.builder in
    c.loop-packet.invariant.made ∙ sym (upto_end b.intake b.arrivals b.given)
    ∙ sym (ap (λ (x : Building). blocks_upto x.intake x.arrivals x.given) c.finish.ensures)

pub returns-clause-blocks : goal.returns-clause-blocks
returns-clause-blocks c =
    let b = c.drain-2.new.builder in
    let d = c.args.device.now in
    let same = c.drain-2.ensures.intake ∙ ap (λ (x : Building). x.intake) c.finish.ensures in
    let all = c.loop-packet.invariant.arrivals
    ∙ ap (map (λ p. Packet p.now))
    (take_all c.loop-packet.packet-index c.args.packets.now
    (omega (arith, c.loop-packet-test.false))) in
    run_ends d c.args.input c.args.ticks b.intake c.loop-packet.builder.arrivals b.arrivals b.given
    c.drain-2.new.made
    (c.loop-packet.invariant.intake ∙ ap Some (sym same))
    (c.drain-2.ensures.arrivals ∙ ap (λ (x : Building). x.arrivals) c.finish.ensures)
    c.in_ok-drain-2.ensures.made c.in_ok-drain-2.ensures.drained
    ∙ ap (session_blocks d c.args.input c.args.ticks) all

pub returns-clause-shape : goal.returns-clause-shape
returns-clause-shape c = λ n e.
    let same = same_intake (intake_of c.args.device.now c.args.input c.args.ticks) n
    c.loop-packet.builder.intake e c.loop-packet.invariant.intake in
    let finished = ap (λ (x : Building). x.intake) c.finish.ensures in
    subst (λ (k : Intake). All (λ x. IfSome x (IsBlock k)) c.drain-2.new.made) (finished ∙ same)
    c.in_ok-drain-2.ensures.shape
