use Rattle.std.proofs.Common.{[], length, ap, ◌∙◌, arith}
use Rattle.std.proofs.lemmas.List.{length-replicate}
use Rattle.http_wire.specs.Stream.{holds}
use Rattle.io_caps.specs.declared.limits.TheConstants.{CLIENTS}
use Rattle.serial_player.proofs.Hearing.{none_resolved, take_whole}
use Rattle.serial_player.proofs.Stepping.{resolved_claims}
use Rattle.serial_player.proofs.resolving.resolve.Goals as goal

pub loop-item-init : goal.loop-item-init
loop-item-init c =
    let new = c.in_ok-streams.ensures in
    record {
      all = ap length new ∙ length-replicate CLIENTS (holds []);
      resolved = none_resolved _ _ new c.new-steps.ensures;
    }

pub returns-clause-claims : goal.returns-clause-claims
returns-clause-claims c =
    let is = c.loop-item.invariant.resolved in
    resolved_claims c.args.items.now c.loop-item.steps is.turns
    (is.items_are ∙ take_whole c.args.items.now c.loop-item.item-index
    (omega (arith, c.loop-item-test.false))) is.steps_are
