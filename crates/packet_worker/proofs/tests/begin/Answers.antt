use Rattle.packet_worker.proofs.tests.begin.Goals as goal

pub invariant_of-result-clause-works : goal.invariant_of-result-clause-works
invariant_of-result-clause-works c = c.claim.ensures.works c.args.inputs c.requires.works
