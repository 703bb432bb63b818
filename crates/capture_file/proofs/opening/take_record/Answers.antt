use Rattle.std.proofs.Common.{refl, arith}
use Rattle.capture_file.proofs.OpeningLaws.{grain_said, none_said, nothing_stands, other_stands}
use Rattle.capture_file.proofs.WalkLaws.{no_reading}
use Rattle.capture_file.proofs.opening.take_record.Goals as goal

pub returns-in-Err-clause-some : goal.returns-in-Err-clause-some
returns-in-Err-clause-some c =
    nothing_stands c.args.behind.now (no_reading c.in-Err.field-0 _ c.in-Err.ensures.gives
    (λ e. c.in-Err.ensures.memory (rw e refl)))

pub returns-then-tag-ne-GRAIN-clause-some : goal.returns-then-tag-ne-GRAIN-clause-some
returns-then-tag-ne-GRAIN-clause-some c =
    other_stands c.args.behind.now _ _ _ (λ i. omega (arith, c.type_inv.behind i))
    c.in-Ok.ensures.gives c.if-tag-ne-GRAIN.true

pub returns-in-Some-clause-some : goal.returns-in-Some-clause-some
returns-in-Some-clause-some c =
    grain_said c.args.behind.now c.in-Some.grain c.in-Ok.found.1.now c.in-Ok.found.2.now
    (λ i. omega (arith, c.type_inv.behind i))
    (rw c.if-tag-ne-GRAIN.false at c.in-Ok.ensures.gives) c.in-Some.ensures.some

pub returns-in-None-clause-none : goal.returns-in-None-clause-none
returns-in-None-clause-none c =
    none_said c.args.behind.now c.in-Ok.found.1.now c.in-Ok.found.2.now
    (λ i. omega (arith, c.type_inv.behind i))
    (rw c.if-tag-ne-GRAIN.false at c.in-Ok.ensures.gives) c.in-None.ensures.none
