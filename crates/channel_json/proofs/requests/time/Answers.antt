use Rattle.std.proofs.Common.{sym}
use Rattle.channel_json.proofs.MomentLemmas.{time_found, time_missing}
use Rattle.channel_json.proofs.requests.time.Goals as goal

pub returns-in-Ok : goal.returns-in-Ok
returns-in-Ok c = sym (time_found c.args.text.now c.in-Ok.time c.in-Ok.ensures.found)

pub returns-in-Err : goal.returns-in-Err
returns-in-Err c = time_missing c.args.text.now c.read.result _ c.in-Err.is c.read.ensures.only
