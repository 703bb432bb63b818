use Rattle.std.proofs.Common.{◌∙◌, rules}
use Rattle.exact_text.proofs.Growth.{growth}
use Rattle.monitors.proofs.Showing.{finished_list, finished_lines, staying_list, staying_lines}
use Rattle.monitors.proofs.walking.show_all.Goals as goal

pub loop-at-preserved-then-is_finished : goal.loop-at-preserved-then-is_finished
loop-at-preserved-then-is_finished g c = record {
  list = finished_list c.loop-at.list.items c.remove.new.self.items
      (λ b. (goal.Monitor-dyn g (b.vtable, b.value)).meaning b.value) c.args.seen.now c.loop-at.at
      c.index_mut.result.now c.show.new.monitor c.index.result.now c.is_finished.result
      (record {
        there = search rules;
        old_is = c.index_mut.ensures.value;
        line = c.show.ensures.line;
        finished = c.show.ensures.finished;
        looked_is = c.index.ensures;
      })
      c.is_finished.ensures c.if-is_finished.true c.remove.ensures.items
      ∙ c.loop-at.invariant.list;
  lines = finished_lines c.loop-at.list.items c.remove.new.self.items
      (λ b. (goal.Monitor-dyn g (b.vtable, b.value)).meaning b.value) c.args.seen.now c.loop-at.at
      c.index_mut.result.now c.show.new.monitor c.index.result.now c.remove.result c.is_finished.result
      c.loop-at.out.items c.write_line.new.out.items
      (record {
        there = search rules;
        old_is = c.index_mut.ensures.value;
        line = c.show.ensures.line;
        finished = c.show.ensures.finished;
        looked_is = c.index.ensures;
      })
      c.is_finished.ensures c.if-is_finished.true c.remove.ensures.items c.remove.ensures.value
      c.in_ok-write_line.ensures.ok
      ∙ c.loop-at.invariant.lines;
  grows = search (rules, growth);
}

pub loop-at-preserved : goal.loop-at-preserved
loop-at-preserved g c = record {
  list = staying_list c.loop-at.list.items
      (λ b. (goal.Monitor-dyn g (b.vtable, b.value)).meaning b.value) c.args.seen.now c.loop-at.at
      c.index_mut.result.now c.show.new.monitor c.index.result.now c.is_finished.result
      (record {
        there = search rules;
        old_is = c.index_mut.ensures.value;
        line = c.show.ensures.line;
        finished = c.show.ensures.finished;
        looked_is = c.index.ensures;
      })
      c.is_finished.ensures c.if-is_finished.false
      ∙ c.loop-at.invariant.list;
  lines = staying_lines c.loop-at.list.items
      (λ b. (goal.Monitor-dyn g (b.vtable, b.value)).meaning b.value) c.args.seen.now c.loop-at.at
      c.index_mut.result.now c.show.new.monitor c.index.result.now c.is_finished.result
      c.loop-at.out.items
      (record {
        there = search rules;
        old_is = c.index_mut.ensures.value;
        line = c.show.ensures.line;
        finished = c.show.ensures.finished;
        looked_is = c.index.ensures;
      })
      c.is_finished.ensures c.if-is_finished.false
      ∙ c.loop-at.invariant.lines;
  grows = c.loop-at.invariant.grows;
}
