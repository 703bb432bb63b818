use Rattle.std.proofs.Common.{◌≡◌, ◌-◌, ◌++◌, map, take, drop, length}
use Rattle.exact_text.specs.Spellings.{Grows}
use Rattle.monitors.specs.Lines.{remaining, retired_lines}
use Rattle.monitors.proofs.walking.show_all.Given as goal

abbrev pub invariant-loop-at : goal.invariant-loop-at
invariant-loop-at g l = record {
  list : take l.at (map (λ b. (goal.Monitor-dyn g (b.vtable, b.value)).meaning b.value) l.list.items)
      ++ remaining l.seen (drop l.at
      (map (λ b. (goal.Monitor-dyn g (b.vtable, b.value)).meaning b.value) l.list.items))
      ≡ remaining l.seen
      (map (λ b. (goal.Monitor-dyn g (b.vtable, b.value)).meaning b.value) l.fn.list.items);
  lines : l.out.items ++ retired_lines l.seen (drop l.at
      (map (λ b. (goal.Monitor-dyn g (b.vtable, b.value)).meaning b.value) l.list.items))
      ≡ l.fn.out.items ++ retired_lines l.seen
      (map (λ b. (goal.Monitor-dyn g (b.vtable, b.value)).meaning b.value) l.fn.list.items);
  grows : Grows l.fn.out.items l.out.items;
}

abbrev pub decreases-loop-at : goal.decreases-loop-at
decreases-loop-at g l = length l.list.items - l.at
