use Rattle.std.proofs.Common.{rules, refl, arith, w32, SFits}
use Rattle.std.proofs.lemmas.Int.{to_z-of_z}
use Rattle.std.proofs.lemmas.List.FromFn.{map-range_with_len_more}
use Rattle.monitors.specs.Packets.{sample_in}
use Rattle.monitors.proofs.packets.read_samples.Goals as goal

pub loop-place-preserved : goal.loop-place-preserved
loop-place-preserved c =
    let f = sample_in c.args.width c.args.payload.now in
    let more = map-range_with_len_more f 0 c.loop-place.place c.loop-place.place (omega arith) in
    let fits : SFits w32 c.sample_at.result = search rules in
    rw (more, c.in_ok-push.ensures.items, c.loop-place.invariant, to_z-of_z w32 c.sample_at.result fits, c.sample_at.ensures) refl
