use Rattle.std.proofs.Common.{◌≡◌, take}
use Rattle.std.specs.List.{Any}
use Rattle.std.proofs.lemmas.List.{take_all}
use Rattle.std.proofs.lemmas.List.Elements.{at_read}
use Rattle.io_caps.proofs.Distinct.{distinct_more, not_distinct}
use Rattle.io_caps.proofs.checks.double_id.Goals as goal

pub returns-then-has_id : goal.returns-then-has_id
returns-then-has_id g c =
    let found = rw c.id.ensures at (c.has_id.ensures.0 c.if-has_id.true) in
    record {
      all = tt;
      within = c.loop-at-test.true;
      some = not_distinct g.P.Port.id c.args.ports.now c.loop-at.at c.index-ports-at.result c.loop-at-test.true c.index-ports-at.is found;
      double = at_read c.args.ports.now (λ x. Any (λ y. g.P.Port.id y ≡ g.P.Port.id x) (take c.loop-at.at c.args.ports.now)) c.loop-at.at
          c.index-ports-at.result c.loop-at-test.true c.index-ports-at.is found;
      before = c.loop-at.invariant;
    }

pub loop-at-preserved : goal.loop-at-preserved
loop-at-preserved g c =
    distinct_more g.P.Port.id c.args.ports.now c.loop-at.at c.index-ports-at.result c.loop-at-test.true c.index-ports-at.is c.loop-at.invariant
    (λ found. absurd (cc (c.has_id.ensures.1 (rw c.id.ensures found), c.if-has_id.false)))

pub returns : goal.returns
returns g c = record {
  all = rw (take_all c.loop-at.at c.args.ports.now c.loop-at-test.false) at c.loop-at.invariant;
  within = tt;
  some = tt;
  double = tt;
  before = tt;
}
