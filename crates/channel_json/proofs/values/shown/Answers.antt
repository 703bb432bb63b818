use Rattle.std.proofs.Common.{sym, ◌∙◌}
use Rattle.channel_json.proofs.Shown.{shown_whole, shown_empty}
use Rattle.channel_json.proofs.values.shown.Goals as goal

pub returns-in-Ok : goal.returns-in-Ok
returns-in-Ok c =
    c.in-Ok.ensures.cases.0 ∙ sym (shown_whole c.args.text.now c.in-Ok.ensures.cases.1)

pub returns-in-Err : goal.returns-in-Err
returns-in-Err c = sym (shown_empty c.args.text.now c.in-Err.ensures.cases.0)
