use Rattle.std.proofs.Common.{ℕ, ◌^◌, ◌<◌, length, sym, subst, arith}
use Rattle.map_entry.specs.Tick.{first_tick}
use Rattle.claim_word.proofs.Bounds.{first_tick-few}
use Rattle.packet_worker.proofs.tests.is_timely.Goals as goal

pub first_tick-requires-clause-sum : goal.first_tick-requires-clause-sum
first_tick-requires-clause-sum c =
    let d = c.args.device.now in
    subst (λ (z : ℕ × ℕ). first_tick z.0 z.1 c.args.claims < 2 ^ 64)
    (λ k. (sym c.base.ensures.value k, sym c.outputs.ensures.value k))
    (first_tick-few d (length d.outputs) c.args.claims c.base.ensures.valid (omega arith))
