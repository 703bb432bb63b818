use Rattle.std.proofs.Common.{◌≡◌, ◌++◌, map, take}
use Rattle.exact_text.specs.Spellings.{Grows}
use Rattle.monitors.specs.Lines.{last_lines}
use Rattle.monitors.proofs.walking.write_lines.Given as goal

abbrev pub invariant-loop-monitor : goal.invariant-loop-monitor
invariant-loop-monitor g l =
    (l.out.items ≡ l.fn.out.items
    ++ last_lines (map (λ b. (goal.Monitor-dyn g (b.vtable, b.value)).meaning b.value) (take l.monitor-index l.list)))
    × Grows l.fn.out.items l.out.items
