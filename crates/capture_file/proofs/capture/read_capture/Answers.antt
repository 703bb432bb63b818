use Rattle.capture_file.proofs.Whole.{answers, refuses}
use Rattle.capture_file.proofs.capture.read_capture.Goals as goal

pub returns-clause-only : goal.returns-clause-only
returns-clause-only c =
    λ capture place h. answers c.args.bytes.now c.read_first.result c.read_first.ensures.found
    c.read_first.ensures.fault capture place h

pub returns-clause-exact : goal.returns-clause-exact
returns-clause-exact c =
    λ place kind h. refuses c.args.bytes.now c.read_first.result c.read_first.ensures.found
    c.read_first.ensures.fault place kind h
