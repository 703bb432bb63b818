use Rattle.std.proofs.Common.{◌∙◌, sym}
use Rattle.std.proofs.lemmas.Option.{IfSome_then}
use Rattle.serde_json.specs.View.{view}
use Rattle.channel_json.specs.Requests.{output_at}
use Rattle.channel_json.proofs.FoundLemmas.{found_none, found_more}
use Rattle.channel_json.proofs.RequestLemmas.{last_is_below}
use Rattle.channel_json.proofs.requests.action_of.Goals as goal

pub loop-output-init : goal.loop-output-init
loop-output-init c = rw found_none c.new-action.ensures

pub push_output-requires : goal.push_output-requires
push_output-requires c =
    IfSome_then c.in_ok-change.change c.in_ok-change.ensures.number
    (λ x is. rw is (last_is_below c.args.device.now
    (view c.args.outputs.now) c.loop-output.output c.loop-output.action
    c.loop-output.invariant))

pub loop-output-preserved : goal.loop-output-preserved
loop-output-preserved c =
    let found = output_at c.args.device.now (view c.args.outputs.now) in
    let more = found_more found c.loop-output.output in
    c.in_ok-push_output.ensures
    ∙ rw (c.loop-output.invariant, c.in_ok-change.ensures.value) (sym more)
