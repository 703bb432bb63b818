use Rattle.std.proofs.Common.{refl, arith}
use Rattle.capture_file.proofs.WalkLaws.{front_none, no_reading, walked_cut, walked_fault, walked_last}
use Rattle.capture_file.proofs.WalkLaws.{walked_next, shorter, reads_bytes}
use Rattle.capture_file.proofs.walk.walk.Goals as goal

pub loop-found-init : goal.loop-found-init
loop-found-init g c = record {
  front = front_none g.S.Judge.judges c.args.start c.args.whole c.args.bytes.now c.requires;
  bytes = λ i. omega (arith, c.type_inv.bytes i);
  within = c.requires;
}

pub returns-in-Err-clause-fault : goal.returns-in-Err-clause-fault
returns-in-Err-clause-fault g c =
    let i = c.loop-found.invariant in
    walked_cut g.S.Judge.judges c.args.cut c.args.start c.args.whole c.args.bytes.now
    c.loop-found.state c.loop-found.rest.now i.front i.within
    (no_reading c.in-Err.field-0 _ c.in-Err.ensures.gives
    (λ e. c.in-Err.ensures.memory (rw e refl)))

pub loop-found-smaller : goal.loop-found-smaller
loop-found-smaller g c =
    let lt = shorter c.loop-found.rest.now _ _ _ c.loop-found.invariant.bytes
    c.in-Ok.ensures.gives in omega (arith, lt)

pub loop-found-preserved : goal.loop-found-preserved
loop-found-preserved g c =
    let i = c.loop-found.invariant in
    let e = c.in-Ok.ensures.gives in
    let lt = shorter c.loop-found.rest.now _ _ _ i.bytes e in
    record {
      front = walked_next g.S.Judge.judges c.args.start c.args.whole c.args.bytes.now
          c.loop-found.state c.loop-found.rest.now _ _ _ c.in-Ok-Next.next i.front i.within i.bytes e
          (rw (← c.in-Ok-Next.field-0-is) c.in-Ok-Next.ensures);
      bytes = reads_bytes c.loop-found.rest.now _ _ i.bytes e;
      within = omega (arith, lt, i.within);
    }

pub overflow_sub-result : goal.overflow_sub-result
overflow_sub-result g c =
    let i = c.loop-found.invariant in
    let lt = shorter c.loop-found.rest.now _ _ _ i.bytes c.in-Ok.ensures.gives in
    omega (arith, lt, i.within)

pub returns-in-Ok-Last-clause-end : goal.returns-in-Ok-Last-clause-end
returns-in-Ok-Last-clause-end g c =
    let i = c.loop-found.invariant in
    walked_last g.S.Judge.judges c.args.start c.args.whole c.args.bytes.now c.loop-found.state
    c.loop-found.rest.now _ _ _ c.in-Ok-Last.last i.front i.within i.bytes c.in-Ok.ensures.gives
    (rw (← c.in-Ok-Last.field-0-is) c.in-Ok-Last.ensures)

pub returns-in-Err-Fault-clause-fault : goal.returns-in-Err-Fault-clause-fault
returns-in-Err-Fault-clause-fault g c =
    let i = c.loop-found.invariant in
    let judged = rw c.in-Err-Fault.field-0-is at c.in-Err-Fault.ensures in
    rw c.in-Err-Fault.field-0-is
    (walked_fault g.S.Judge.judges c.args.cut c.args.start c.args.whole c.args.bytes.now
    c.loop-found.state c.loop-found.rest.now _ _ _ c.in-Err-Fault.fault i.front i.within i.bytes
    c.in-Ok.ensures.gives judged)
