use Rattle.std.proofs.Common.{[]}
use Rattle.serial_player.proofs.Hearing.{heard_next}
use Rattle.serial_player.proofs.resolving.take_asks.Goals as goal

pub loop-ask-preserved : goal.loop-ask-preserved
loop-ask-preserved c =
    heard_next c.args.client [] c.args.stream.now c.loop-ask.stream c.next_ask.new.stream
    c.args.steps.now c.loop-ask.steps c.push.new.self c.in_ok-ask.field-0 c.in-Some.ask
    c.loop-ask.invariant c.in-Some.is c.in_ok-ask.ensures c.in_ok-push.ensures.ok
