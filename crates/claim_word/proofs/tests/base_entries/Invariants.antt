use Rattle.claim_word.proofs.BaseRows.{AreFirst}
use Rattle.claim_word.proofs.tests.base_entries.Given as goal

abbrev pub invariant-loop-output : goal.invariant-loop-output
invariant-loop-output l = AreFirst l.fn.setup l.made l.output
