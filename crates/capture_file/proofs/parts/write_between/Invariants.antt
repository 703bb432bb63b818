use Rattle.std.proofs.Common.{◌≡◌, map}
use Rattle.std.specs.List.{range_with_len}
use Rattle.capture_file.specs.Parts.{between_bytes, AreHeld}
use Rattle.capture_file.proofs.parts.write_between.Given as goal

abbrev pub invariant-loop-number : goal.invariant-loop-number
invariant-loop-number l = record {
  held : AreHeld l.number l.calls l.replies l.left.calls.now l.left.replies.now;
  made : l.made ≡ map (λ k. between_bytes l.format k l.calls l.replies) (range_with_len 0 l.number);
}
