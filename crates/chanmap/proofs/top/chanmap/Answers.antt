use Rattle.std.proofs.Common.{sym, ◌∙◌}
use Rattle.chanmap.specs.World.{World, world_of}
use Rattle.chanmap.proofs.Ends.{runs_badly, runs_well}
use Rattle.chanmap.proofs.top.chanmap.Goals as goal

pub returns-in-Ok-clause-run : goal.returns-in-Ok-clause-run
returns-in-Ok-clause-run g c =
    runs_well _ c.in-Some.command _ _ (sym c.command_of.ensures ∙ c.in-Some.is)
    (c.in-Ok.ensures.done (g.X.Sink.taken c.args.err.now) (g.X.Sink.faults c.args.err.now))
    c.in-Ok.ensures.bounded

pub returns-in-Err-clause-run : goal.returns-in-Err-clause-run
returns-in-Err-clause-run g c =
    let told = g.X.Sink.taken c.args.err.now in
    let told_then = g.X.Sink.taken c.tell-in-Err.new.err in
    let faults = g.X.Sink.faults c.args.err.now in
    let faults_then = g.X.Sink.faults c.tell-in-Err.new.err in
    let before : World =
    world_of (g.S.Source.left c.args.src.now) (g.S.Source.faults c.args.src.now)
    (g.K.Sink.taken c.args.out.now) (g.K.Sink.faults c.args.out.now) told faults in
    let after : World =
    world_of (g.S.Source.left c.run.new.src) (g.S.Source.faults c.run.new.src)
    (g.K.Sink.taken c.run.new.out) (g.K.Sink.faults c.run.new.out) told_then faults_then in
    runs_badly _ c.in-Some.command before after c.in-Err.end c.tell-in-Err.result
    (sym c.command_of.ensures ∙ c.in-Some.is)
    (c.in-Err.ensures.ends told told_then faults faults_then) c.in-Err.ensures.bounded
    c.tell-in-Err.ensures
