use Rattle.std.proofs.Common.{arith}
use Rattle.std.proofs.lemmas.Slice.Zip.{AllZip-long}
use Rattle.map_entry.specs.Setup.{HasCells}
use Rattle.map_entry.proofs.Rows.{base_long}
use Rattle.map_entry.proofs.setup.check_rows.Goals as goal

pub row_at-requires : goal.row_at-requires
row_at-requires c =
    let long = AllZip-long HasCells c.args.device.now.outputs c.args.rows.now c.requires in
    omega (arith, long, c.outputs-output-end.ensures.value, c.loop-output-test.true)

pub check_row-requires-clause-long : goal.check_row-requires-clause-long
check_row-requires-clause-long c = base_long c.args.device.now c.args.rows.now c.loop-output.output c.row_at.result.now c.requires c.row_at.ensures

pub returns-clause-ok : goal.returns-clause-ok
returns-clause-ok c = λ k within.
    let long = AllZip-long HasCells c.args.device.now.outputs c.args.rows.now c.requires in
    c.loop-output.invariant k (omega (arith, within, long, c.outputs-output-end.ensures.value, c.loop-output-test.false))
