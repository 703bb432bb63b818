use Rattle.std.proofs.Common.{◌≡◌, ◌+◌, ◌∙◌, List, length, map, subst, arith}
use Rattle.std.specs.List.{All}
use Rattle.input_cells.specs.Faces.{InputFace, unread}
use Rattle.input_cells.proofs.Starting.{are_feeds, as_inputs, none_yet, numbered_table, spare_of}
use Rattle.input_cells.proofs.table.InputTable.start.Goals as goal

pub invariant_of-table : goal.invariant_of-table
invariant_of-table c =
    numbered_table c.args.device.now c.args.from c.args.ticks c.in_ok-laid.laid.inputs.items
    c.in_ok-laid.ensures.shapes

pub invariant_of-feeds : goal.invariant_of-feeds
invariant_of-feeds c =
    let table : List InputFace = c.in_ok-laid.laid.inputs.items in
    are_feeds table _ _ _ _ c.in_ok-laid.ensures.feeders (c.in_ok-passes.ensures.same
    ∙ c.in_ok-laid.ensures.reader)
    (numbered_table c.args.device.now c.args.from c.args.ticks table c.in_ok-laid.ensures.shapes)
    c.in_ok-passes.ensures.count
    (subst (λ (l : List InputFace). All (λ p. p ≡ map unread l) c.in_ok-passes.passes.items)
    c.as_slice.ensures.value c.in_ok-passes.ensures.new)

pub returns-clause-of : goal.returns-clause-of
returns-clause-of c =
    spare_of c.in_ok-laid.laid.inputs.items _ (c.in_ok-passes.ensures.same
    ∙ c.in_ok-laid.ensures.reader)

pub returns-clause-given : goal.returns-clause-given
returns-clause-given c =
    let table : List InputFace = c.in_ok-laid.laid.inputs.items in
    none_yet table _ c.in_ok-laid.ensures.feeders (length c.args.device.now.inputs + 1)
    (as_inputs c.args.device.now c.args.from c.args.ticks table c.in_ok-laid.ensures.shapes)

pub returns-clause-made : goal.returns-clause-made
returns-clause-made c = omega (arith, c.in_ok-passes.ensures.count)
