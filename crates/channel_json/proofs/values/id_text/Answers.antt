use Rattle.std.proofs.Common.{◌∙◌}
use Rattle.channel_json.proofs.Shown.{shown_id}
use Rattle.channel_json.proofs.values.id_text.Goals as goal

pub returns : goal.returns
returns c = c.shown.ensures ∙ shown_id c.args.id.now c.requires
