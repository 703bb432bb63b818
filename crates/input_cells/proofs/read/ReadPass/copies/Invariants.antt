use Rattle.std.specs.Prelude.{◌≡◌, length, map}
use Rattle.std.specs.List.{All}
use Rattle.input_cells.specs.Faces.{unread}
use Rattle.input_cells.proofs.read.ReadPass.copies.Given as goal

abbrev pub invariant-loop : goal.invariant-loop
invariant-loop l = record {
  same : l.self ≡ l.fn.self;
  count : length l.passes.items ≡ l.counter;
  new : All (λ pass. pass ≡ map unread l.inputs) l.passes.items;
}
