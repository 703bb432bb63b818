use Rattle.std.proofs.Common.{rules, ◌≡◌}
use Rattle.http_wire.specs.Stream.{fed}
use Rattle.http_wire.proofs.RunLemmas.{feeds_on, feeds_on_ok}
use Rattle.http_wire.proofs.ScanLemmas.{fed_known}
use Rattle.http_wire.proofs.stream.Stream.feed.Goals as goal

pub returns-then-self-clause-whole : goal.returns-then-self-clause-whole
returns-then-self-clause-whole c =
    let still : c.args.self.now ≡ fed c.args.self.now c.args.piece.now = search rules in
    feeds_on c.args.self.now c.args.piece.now c.args.self.now still

pub returns-clause-ok : goal.returns-clause-ok
returns-clause-ok c = search rules

pub returns-clause-whole : goal.returns-clause-whole
returns-clause-whole c = feeds_on_ok c.append.result _ _ _ (returns-clause-ok c)

pub invariant_of-self : goal.invariant_of-self
invariant_of-self c = fed_known c.append.result c.self.inside.held c.self.inside.known c.args.piece.now c.append.new.self c.self.invariant c.append.ensures.ok
    c.append.ensures.err
