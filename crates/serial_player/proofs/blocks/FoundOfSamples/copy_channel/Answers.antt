use Rattle.std.proofs.Common.{ℤ, List, Option, length, refl, sym, ap, ◌∙◌}
use Rattle.packet_writer.specs.Heard.{channel_samples}
use Rattle.packet_writer.proofs.Copies.{silent}
use Rattle.serial_player.specs.Table.{found_placed}
use Rattle.serial_player.proofs.blocks.FoundOfSamples.copy_channel.Goals as goal

pub copy_from_block-requires-clause-room : goal.copy_from_block-requires-clause-room
copy_from_block-requires-clause-room c =
    rw c.in-Some.ensures.some at
    (c.requires.room (found_placed c.args.self.now.table.now c.args.self.now.place c.args.self.now.found.now) (λ i. refl))

pub returns-in-None-clause-value : goal.returns-in-None-clause-value
returns-in-None-clause-value c = λ b agrees.
    c.fill.ensures.after (λ y e. e)
    ∙ silent c.args.channels c.args.channel c.args.frame (length c.args.out.now)
    ∙ ap (λ (o : Option (List ℤ)). channel_samples o c.args.channels c.args.channel c.args.frame
    (length c.args.out.now)) (sym (agrees c.args.input ∙ c.in-None.ensures.none))
