use Rattle.std.proofs.Common.{◌∷◌, ◌++◌, [], List, ap, ◌∙◌}
use Rattle.serial_player.specs.Serial.{asks_in}
use Rattle.serial_player.specs.declared.asks.ClientAsk.{ClientAsk}
use Rattle.serial_player.proofs.Stepping.{asks_more}
use Rattle.serial_player.proofs.asks.asks_in.Goals as goal

pub loop-step-preserved : goal.loop-step-preserved
loop-step-preserved c =
    let client = c.args.client in
    let step = c.step-item.result in
    c.in_ok-push_ask.ensures
    ∙ ap (λ (xs : List ClientAsk). xs ++ asks_in client (step ∷ [])) c.loop-step.invariant
    ∙ asks_more client c.args.steps.now c.loop-step.step-index step c.loop-step-test.true
    c.step-item.is
