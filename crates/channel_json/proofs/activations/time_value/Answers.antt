use Rattle.std.proofs.Common.{◌≡◌, ◌∙◌, ap, rules}
use Rattle.serde_json.specs.Data.{string}
use Rattle.tai_time.specs.Time.{tai_text}
use Rattle.channel_json.specs.Values.{shown_text}
use Rattle.channel_json.proofs.Shown.{shown_time}
use Rattle.channel_json.proofs.activations.time_value.Goals as goal

pub returns : goal.returns
returns c =
    let text : c.as_slice.result.now ≡ tai_text c.args.time = search rules in
    c.in_ok-try_from_str.ensures
    ∙ ap string (c.shown.ensures ∙ ap shown_text text
    ∙ shown_time c.args.time c.in_ok-write.ensures.again)
