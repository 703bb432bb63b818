use Rattle.std.proofs.Common.{arith}
use Rattle.capture_file.proofs.PartLaws.{whole_left, whole_text, shows_all}
use Rattle.capture_file.proofs.result.write_result.Goals as goal

pub returns-in_err-extend_from_slice-clause-shows :
    goal.returns-in_err-extend_from_slice-clause-shows
returns-in_err-extend_from_slice-clause-shows c = shows_all c.args.history.now c.requires.whole

pub push_range-requires-clause-left : goal.push_range-requires-clause-left
push_range-requires-clause-left c =
    rw (c.as_slice.ensures, c.as_slice-2.ensures, c.as_slice-claims.ensures)
    (whole_left c.args.format c.args._device.now c.args.history.now c.requires)

pub returns-in_err-push_range-clause-shows : goal.returns-in_err-push_range-clause-shows
returns-in_err-push_range-clause-shows c = shows_all c.args.history.now c.requires.whole

pub returns-in_err-push_record-clause-shows : goal.returns-in_err-push_record-clause-shows
returns-in_err-push_record-clause-shows c = shows_all c.args.history.now c.requires.whole

pub returns-clause-ok : goal.returns-clause-ok
returns-clause-ok c =
    rw (
      c.in_ok-push_record.ensures.ok,
      c.in_ok-push_range.ensures.ok,
      c.as_slice.ensures,
      c.as_slice-2.ensures,
      c.as_slice-claims.ensures,
      c.in_ok-extend_from_slice.ensures.items,
      c.result_magic.ensures,
    )
    (whole_text c.args.format c.args._device.now c.args.history.now c.args.out.now.items _
    (omega arith))

pub returns-clause-shows : goal.returns-clause-shows
returns-clause-shows c = shows_all c.args.history.now c.requires.whole
