use Rattle.std.proofs.Common.{◌≡◌, ◌++◌, option_map, drop}
use Rattle.serde_json.specs.View.{items_view}
use Rattle.channel_json.specs.Fields.{each_in}
use Rattle.channel_json.proofs.fields.each.Given as goal

abbrev pub invariant-loop-value : goal.invariant-loop-value
invariant-loop-value g l =
    each_in (g.F.Form.reading l.form) (items_view l.list)
    ≡ option_map (λ xs. l.made.items ++ xs)
    (each_in (g.F.Form.reading l.form) (items_view (drop l.value-index l.list)))
