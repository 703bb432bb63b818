use Rattle.std.proofs.Common.{◌≡◌, ◌∙◌, List, length, map, ap, arith, rules}
use Rattle.input_cells.specs.Faces.{SeatFace, face_of}
use Rattle.input_cells.proofs.Feeders.{feeders_all, feeders_more}
use Rattle.input_cells.proofs.tests.feeders.Goals as goal

pub loop-input-preserved : goal.loop-input-preserved
loop-input-preserved c = record {
  faces = ap (λ (l : List SeatFace). map face_of l) c.in_ok-push.ensures.ok
      ∙ feeders_more c.args.table.now c.loop-input.made c.in_ok-feed.field-0 c.loop-input.input
      c.loop-input.invariant.faces c.in_ok-feed.ensures.input;
  of = search rules;
}

pub returns-clause-passes : goal.returns-clause-passes
returns-clause-passes c =
    let all : length c.args.table.now ≡ c.loop-input.input =
    omega (
      arith,
      c.loop-input-test.false,
      c.loop-input.auto.input-end,
      c.feeders-input-end.ensures,
    ) in
    feeders_all c.args.table.now c.loop-input.made c.loop-input.input all
    c.loop-input.invariant.faces
