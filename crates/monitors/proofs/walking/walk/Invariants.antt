use Rattle.std.proofs.Common.{◌≡◌, ◌++◌, map, drop}
use Rattle.exact_text.specs.Spellings.{Grows}
use Rattle.monitors.specs.Lines.{lines_of}
use Rattle.monitors.specs.Packets.{seen_of}
use Rattle.monitors.proofs.walking.walk.Given as goal

abbrev pub invariant-loop-claim : goal.invariant-loop-claim
invariant-loop-claim g l = record {
  lines : l.out.items ++ lines_of
      (map (λ b. (goal.Monitor-dyn g (b.vtable, b.value)).meaning b.value) l.list.items)
      (map (seen_of l.device) (drop l.claim-index l.claims))
      ≡ l.fn.out.items ++ lines_of
      (map (λ b. (goal.Monitor-dyn g (b.vtable, b.value)).meaning b.value) l.fn.list.items)
      (map (seen_of l.device) l.claims);
  grows : Grows l.fn.out.items l.out.items;
}
