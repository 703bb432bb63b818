use Rattle.std.proofs.Common.{ℕ, ◌*◌, ◌≤◌, length, arith}
use Rattle.std.proofs.Math.Nat.{mul-le-mul_right}
use Rattle.io_caps.specs.declared.limits.TheConstants.{LAP_TICKS}
use Rattle.packet_worker.proofs.tests.start_claims.Goals as goal

pub start-requires-clause-claims : goal.start-requires-clause-claims
start-requires-clause-claims c =
    let n : ℕ = length c.args.setup.now.device.outputs in
    let few = c.in_ok-base_entries.ensures.few in
    let m : c.args.ticks * n ≤ LAP_TICKS * n = mul-le-mul_right n c.requires.ticks in omega arith

pub start-requires-clause-base : goal.start-requires-clause-base
start-requires-clause-base c = c.in_ok-base_entries.ensures.base c.args.from
