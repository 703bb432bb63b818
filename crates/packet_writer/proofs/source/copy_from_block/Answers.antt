use Rattle.std.proofs.Common.{◌+◌, ◌*◌, get_or, rules, w32, pos}
use Rattle.std.specs.Prelude.{Some}
use Rattle.std.proofs.lemmas.Int.{to_z-of_z}
use mir.Val.{SFits}
use Rattle.packet_writer.specs.Heard.{sample_in}
use Rattle.packet_writer.proofs.Copies.{copied_more}
use Rattle.packet_writer.proofs.source.copy_from_block.Goals as goal

pub loop-n-preserved : goal.loop-n-preserved
loop-n-preserved c =
    let place = (c.args.frame + c.loop-n.n) * c.args.channels + c.args.channel in
    let fits : SFits w32 (get_or c.args.samples.now place (pos 0)) = search rules in
    copied_more (λ f. sample_in (Some c.args.samples.now) (f * c.args.channels + c.args.channel))
    c.args.frame c.loop-n.n c.args.out.now c.loop-n.out _ c.loop-n-test.true
    (to_z-of_z w32 (get_or c.args.samples.now place (pos 0)) fits) c.loop-n.invariant
