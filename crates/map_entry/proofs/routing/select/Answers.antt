use Rattle.std.proofs.Common.{ℕ, List, sym, ap, ◌∙◌, rules}
use Rattle.map_entry.specs.declared.entry.Entry.{Entry}
use Rattle.map_entry.specs.Entry.{selected}
use Rattle.map_entry.specs.Tick.{frame_key}
use Rattle.map_entry.proofs.Selection.{selected-position}
use Rattle.map_entry.proofs.routing.select.Goals as goal

pub returns-clause-by_position : goal.returns-clause-by_position
returns-clause-by_position c = λ within.
    c.select_in.ensures ∙ ap (λ (es : List Entry). selected es c.args.output (frame_key c.frame_at-tick.result.0 c.frame_at-tick.result.1)) c.as_slice.ensures
    ∙ ap (λ (key : ℕ). selected c.args.entries.now c.args.output key) c.frame_at-tick.ensures.key
    ∙ selected-position c.args.frames c.args.entries.now c.args.output c.args.position c.requires (search rules) within
