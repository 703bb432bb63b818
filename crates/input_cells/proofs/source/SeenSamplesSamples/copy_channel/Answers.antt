use Rattle.std.proofs.Common.{ℤ, List, Option, length, refl, sym, ap, ◌∙◌}
use Rattle.packet_writer.specs.Heard.{channel_samples}
use Rattle.input_cells.proofs.Copying.{heard_before, seen_of, sights_on, silent}
use Rattle.input_cells.proofs.Growing.{all_hear_grow, all_hear_then, stays_of_table}
use Rattle.input_cells.proofs.source.SeenSamplesSamples.copy_channel.Goals as goal

pub copy_channel-requires-clause-input : goal.copy_channel-requires-clause-input
copy_channel-requires-clause-input c =
    (c.args.self.now.seen c.args.input (sym c.is_set.ensures ∙ c.if-is_set.true)).0

pub copy_channel-requires-clause-tick : goal.copy_channel-requires-clause-tick
copy_channel-requires-clause-tick c =
    (seen_of _ _ _ _ c.args.self.now.seen c.args.input (sym c.is_set.ensures ∙ c.if-is_set.true)).1

pub copy_channel-requires-clause-seen : goal.copy_channel-requires-clause-seen
copy_channel-requires-clause-seen c =
    (seen_of _ _ _ _ c.args.self.now.seen c.args.input (sym c.is_set.ensures ∙ c.if-is_set.true)).2

pub invariant_of-self : goal.invariant_of-self
invariant_of-self c = record {
  of_table = stays_of_table _ _ _ (all_hear_grow _ _ c.copy_channel.ensures.hears)
      c.args.self.now.of_table;
  seen = sights_on _ _ _ _ _ (all_hear_grow _ _ c.copy_channel.ensures.hears)
      c.args.self.now.seen;
}

pub returns-then-is_set-clause-value : goal.returns-then-is_set-clause-value
returns-then-is_set-clause-value c b h =
    c.copy_channel.ensures.value (b c.args.input)
    (h.heard c.args.input (sym c.is_set.ensures ∙ c.if-is_set.true))
    (c.requires.room b (heard_before _ _ _ _ b (all_hear_grow _ _ c.copy_channel.ensures.hears) h))

pub returns-then-is_set-clause-kept : goal.returns-then-is_set-clause-kept
returns-then-is_set-clause-kept c b h = heard_before _ _ _ _ b (all_hear_grow _ _ c.copy_channel.ensures.hears) h

pub returns-then-is_set-clause-stays : goal.returns-then-is_set-clause-stays
returns-then-is_set-clause-stays c =
    record {
      lender = refl;
      table = refl;
      tick = refl;
      flags = refl;
      hears = λ first h. all_hear_then first _ _ h c.copy_channel.ensures.hears;
    }

pub returns-else-is_set-clause-value : goal.returns-else-is_set-clause-value
returns-else-is_set-clause-value c b h =
    c.fill.ensures.after (λ y e. e)
    ∙ (sym (silent c.args.channels c.args.channel c.args.frame (length c.args.out.now))
    ∙ ap (λ (o : Option (List ℤ)). channel_samples o c.args.channels c.args.channel c.args.frame
    (length c.args.out.now))
    (sym (h.silent c.args.input (sym c.is_set.ensures ∙ c.if-is_set.false))))
