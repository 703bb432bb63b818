use Rattle.serde_json.specs.Data.{no_members}
use Rattle.channel_json.specs.Cells.{row_member}
use Rattle.channel_json.proofs.ValueLemmas.{one_more}
use Rattle.channel_json.proofs.cells.all_rows.Goals as goal

pub loop-output-preserved : goal.loop-output-preserved
loop-output-preserved c =
    rw c.in_ok-put_row.ensures
    (rw c.loop-output.invariant
    (one_more (row_member c.args.device.now c.args.rows.now) c.loop-output.output no_members))
