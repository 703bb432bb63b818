use Rattle.sdp_audio.proofs.Faults.{fault_once, no_fault}
use Rattle.sdp_audio.proofs.reading.read_sdp.Goals as goal

pub returns-in-Err-clause-exact : goal.returns-in-Err-clause-exact
returns-in-Err-clause-exact c = λ fault is. fault_once c.args.text.now c.in-Err.fault fault c.in-Err.ensures.fault is
