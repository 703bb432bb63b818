use Rattle.std.proofs.Common.{◌≡◌, ◌++◌, take}
use Rattle.claim_word.proofs.shelf.Shelf.keep_all.Given as goal

abbrev pub invariant-loop-entry : goal.invariant-loop-entry
invariant-loop-entry l = l.self ≡ l.fn.self ++ take l.entry-index l.fn.entries
