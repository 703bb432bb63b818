use Rattle.std.proofs.Common.{◌∙◌, rules, arith, sym}
use Rattle.std.proofs.lemmas.Bool.{eqb-true}
use Rattle.exact_text.proofs.Growth.{growth}
use Rattle.monitors.proofs.Walks.{on_ok, walked_all, walked_more, walked_none}
use Rattle.monitors.proofs.walking.walk.Goals as goal

pub returns-then-is_empty-clause-ok : goal.returns-then-is_empty-clause-ok
returns-then-is_empty-clause-ok g c =
    walked_none c.loop-claim.list.items (λ b. (goal.Monitor-dyn g (b.vtable, b.value)).meaning b.value) _
    c.loop-claim.out.items _
    (sym c.loop-claim.list.ok.0 ∙ eqb-true _ _ (sym c.is_empty.ensures ∙ c.if-is_empty.true))
    c.loop-claim.invariant.lines

pub loop-claim-preserved : goal.loop-claim-preserved
loop-claim-preserved g c = record {
  lines = walked_more c.loop-claim.list.items c.show_all.new.list.items
      (λ b. (goal.Monitor-dyn g (b.vtable, b.value)).meaning b.value) c.args.device.now c.args.claims.now
      c.loop-claim.claim-index c.claim-item.result c.in_ok-seen.seen c.loop-claim.out.items
      c.show_all.new.out.items _ c.loop-claim-test.true c.claim-item.is c.in_ok-seen.ensures
      c.in_ok-show_all.ensures.list c.in_ok-show_all.ensures.lines c.loop-claim.invariant.lines;
  grows = search (rules, growth);
}

pub returns-clause-ok : goal.returns-clause-ok
returns-clause-ok g c =
    on_ok c.write_lines.result
    (λ written. walked_all c.loop-claim.list.items c.deref.result.now
    (λ b. (goal.Monitor-dyn g (b.vtable, b.value)).meaning b.value) c.args.device.now c.args.claims.now
    c.loop-claim.claim-index c.loop-claim.out.items c.write_lines.new.out.items _ c.loop-claim-test.false
    c.deref.ensures.value written c.loop-claim.invariant.lines)
    c.write_lines.ensures.ok
