use Rattle.std.proofs.Common.{subst}
use Rattle.chan_io.specs.Streams.{TakesPrefix}
use Rattle.chanmap.proofs.Parts.{first_and_others, front_behind}
use Rattle.chanmap.proofs.end.+write_parts.Goals as goal

pub returns-in_ok-write_whole-in-len1-up-clause-prefix :
    goal.returns-in_ok-write_whole-in-len1-up-clause-prefix
returns-in_ok-write_whole-in-len1-up-clause-prefix g t c =
    let first = c.in_ok-write_whole-in-len1-up.ensures in
    let others = c.write_parts.ensures in
    subst (TakesPrefix (g.X.Sink.taken c.args.sink.now) (g.X.Sink.taken c.write_parts.new.sink))
    (first_and_others c.args.parts.now (λ p. p.now) _ c.in-len1-up.len_at_least)
    (front_behind _ _ _ _ _ first.prefix first.ok others.prefix)
